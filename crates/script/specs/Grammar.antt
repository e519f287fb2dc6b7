-- What one line of a script asks.
use Rattle.std.specs.Prelude.{ℕ, ◌+◌, ◌^◌, Bool, ◌&&◌, ◌||◌, not, ◌==◌, true, false, nat_lt, nat_le, if◌then◌else◌, List, [], ◌∷◌, slice_index, bytes_eq, codes, Option, Some, None, option_map}
use Rattle.std.specs.List.{list_all}
use Rattle.std.specs.Option.{option_and_then}
use Rattle.uuid.specs.Text.{parsed}
use Rattle.history.specs.raid_types_the_Shape.{Shape}
use Rattle.script_words.specs.Keys.{has_key, given_number}
use Rattle.script_words.specs.Numbers.{is_space, words_of, number_below}
use Rattle.script_words.specs.Shapes.{shape_of}
use Rattle.script_words.specs.Wishes.{wish_of}
use Rattle.script.specs.declared.lines.Line.{Line}
use Rattle.script.specs.declared.lines.Line.TheVariants.{Create, Read, Write, Flush, Fail, Add, Step, Wait, ArraySize, Grow, Stop, Halt, Detail, Mdstat, Alerts, Examine, Assemble}
use Rattle.script.specs.declared.grammar.Meaning.{Meaning}
use Rattle.script.specs.declared.grammar.Meaning.TheVariants.{PassedOver, Opens, Asks, Bad}
use Rattle.script.specs.declared.reply.Lane.{Lane}
use Rattle.script.specs.declared.reply.Lane.TheVariants.{Script, A, B, Worker}

-- where COUNT sectors begin and how many they are: COUNT is 1 to 128, and X + COUNT below 2^63
abbrev pub is_span : ℕ × ℕ → Bool
is_span span = nat_le 1 span.1 && nat_le span.1 128 && nat_lt (span.0 + span.1) (2 ^ 63)

abbrev pub span_of : List ℕ → List ℕ → Option (ℕ × ℕ)
span_of x count =
    option_and_then
    (λ start. option_and_then (λ n. if is_span (start, n) then Some (start, n) else None) (number_below (2 ^ 32) count))
    (number_below (2 ^ 64) x)

-- an array of these parts
abbrev pub array_from : Option (List ℕ) → Option Shape → Option ℕ → Option ℕ → Option Line
array_from (Some uuid) (Some shape) (Some size) (Some offset) =
    Some (Create (record { uuid = uuid; shape = shape; size = size; offset = offset }))
array_from uuid shape size offset = None

-- the array that the keys give; its size has no default
abbrev pub array_of : List ℕ → List (List ℕ) → Option Line
array_of uuid words =
    array_from (parsed uuid) (shape_of words) (given_number (2 ^ 64) (codes "size=") None words)
    (given_number (2 ^ 64) (codes "offset=") (Some (codes "2048")) words)

abbrev pub create_keys : List (List ℕ)
create_keys = codes "level=" ∷ codes "disks=" ∷ codes "chunk=" ∷ codes "layout=" ∷ codes "size=" ∷ codes "offset=" ∷ []

-- `create UUID key=value..`, of these keys alone, in any order
abbrev pub create_of : List (List ℕ) → Option Line
create_of [] = None
create_of (uuid ∷ words) = if list_all (has_key create_keys) words then array_of uuid words else None

-- `assemble` or `assemble UUID`
abbrev pub assemble_of : List (List ℕ) → Option Line
assemble_of [] = Some (Assemble None)
assemble_of (uuid ∷ []) = option_map (λ bytes. Assemble (Some bytes)) (parsed uuid)
assemble_of values = None

-- `read X COUNT`
abbrev pub read_of : List (List ℕ) → Option Line
read_of (x ∷ count ∷ []) = option_map (λ span. Read span.0 span.1) (span_of x count)
read_of _ = None

-- `write X COUNT SEED`
abbrev pub write_of : List (List ℕ) → Option Line
write_of (x ∷ count ∷ seed ∷ []) =
    option_and_then (λ span. option_map (λ n. Write span.0 span.1 n) (number_below (2 ^ 32) seed)) (span_of x count)
write_of _ = None

-- `fail ROLE`
abbrev pub fail_of : List (List ℕ) → Option Line
fail_of (role ∷ []) = option_map (λ n. Fail n) (number_below (2 ^ 32) role)
fail_of _ = None

-- `add SLOT`
abbrev pub add_of : List (List ℕ) → Option Line
add_of (slot ∷ []) = option_map (λ n. Add n) (number_below (2 ^ 32) slot)
add_of _ = None

-- `step N`: N is 1 or more
abbrev pub step_of : List (List ℕ) → Option Line
step_of (most ∷ []) = option_and_then (λ n. if nat_le 1 n then Some (Step n) else None) (number_below (2 ^ 32) most)
step_of _ = None

-- what `array-size` sets: a limit, or none for `max`
abbrev pub limit_given : List ℕ → Option (Option ℕ)
limit_given word = if bytes_eq word (codes "max") then Some None else option_map (λ n. Some n) (number_below (2 ^ 64) word)

-- `array-size N` or `array-size max`
abbrev pub array_size_of : List (List ℕ) → Option Line
array_size_of (word ∷ []) = option_map (λ limit. ArraySize limit) (limit_given word)
array_size_of _ = None

-- `grow key=value..`
abbrev pub grow_of : List (List ℕ) → Option Line
grow_of words = option_map (λ wish. Grow wish) (wish_of words)

-- `examine SLOT`
abbrev pub examine_of : List (List ℕ) → Option Line
examine_of (slot ∷ []) = option_map (λ n. Examine n) (number_below (2 ^ 32) slot)
examine_of _ = None

-- a line of one word
abbrev pub alone : Line → List (List ℕ) → Option Line
alone line [] = Some line
alone line values = None

-- a line by its first word
abbrev pub line_of : List (List ℕ) → Option Line
line_of [] = None
line_of (verb ∷ values) =
    if bytes_eq verb (codes "create") then create_of values
    else if bytes_eq verb (codes "assemble") then assemble_of values
    else if bytes_eq verb (codes "read") then read_of values
    else if bytes_eq verb (codes "write") then write_of values
    else if bytes_eq verb (codes "flush") then alone Flush values
    else if bytes_eq verb (codes "fail") then fail_of values
    else if bytes_eq verb (codes "add") then add_of values
    else if bytes_eq verb (codes "step") then step_of values
    else if bytes_eq verb (codes "wait") then alone Wait values
    else if bytes_eq verb (codes "array-size") then array_size_of values
    else if bytes_eq verb (codes "grow") then grow_of values
    else if bytes_eq verb (codes "stop") then alone Stop values
    else if bytes_eq verb (codes "halt") then alone Halt values
    else if bytes_eq verb (codes "detail") then alone Detail values
    else if bytes_eq verb (codes "mdstat") then alone Mdstat values
    else if bytes_eq verb (codes "examine") then examine_of values
    else if bytes_eq verb (codes "alerts") then alone Alerts values
    else None

-- printable ASCII and spaces
abbrev pub is_printable : List ℕ → Bool
is_printable text = list_all (λ b. nat_le 32 b && nat_le b 126) text

-- lines without a byte, of spaces alone, or that begin with `#`
abbrev pub is_passed_over : List ℕ → Bool
is_passed_over text = list_all is_space text || (slice_index text 0 == 35)

-- a line of this lane asks this, or it is bad
abbrev pub asks_for : Lane → Option Line → Meaning
asks_for lane (Some line) = Asks lane line
asks_for lane None = Bad

-- what may stand in a lane: `read`, `write`, `flush` and `fail`
abbrev pub is_for_lanes : Line → Bool
is_for_lanes (Read start count) = true
is_for_lanes (Write start count seed) = true
is_for_lanes Flush = true
is_for_lanes (Fail role) = true
is_for_lanes line = false

abbrev pub for_lanes : Option Line → Option Line
for_lanes (Some line) = if is_for_lanes line then Some line else None
for_lanes None = None

-- a line of a block: behind `a:` or `b:` what that lane asks; or `end`, at which the worker asks what `wait` does
abbrev pub inside_of : List (List ℕ) → Meaning
inside_of [] = Bad
inside_of (verb ∷ values) =
    if bytes_eq verb (codes "a:") then asks_for A (for_lanes (line_of values))
    else if bytes_eq verb (codes "b:") then asks_for B (for_lanes (line_of values))
    else if bytes_eq verb (codes "end") then asks_for Worker (alone Wait values)
    else Bad

-- `together` opens a block, and stands alone
abbrev pub opens : List (List ℕ) → Meaning
opens [] = Opens
opens values = Bad

-- a line outside a block
abbrev pub outside_of : List (List ℕ) → Meaning
outside_of [] = Bad
outside_of (verb ∷ values) =
    if bytes_eq verb (codes "together") then opens values else asks_for Script (line_of (verb ∷ values))

-- what the text of a line means, inside a block or outside
abbrev pub meaning_of : Bool → List ℕ → Meaning
meaning_of inside text =
    if not (is_printable text) then Bad
    else if is_passed_over text then PassedOver
    else if inside then inside_of (words_of text)
    else outside_of (words_of text)
