-- What the text of a whole script asks, or which of its lines is the first bad one.
use Rattle.std.specs.Prelude.{◌≡◌, ℕ, ◌+◌, ◌-◌, Bool, true, false, ◌&&◌, ◌||◌, not, ◌==◌, nat_lt, nat_le, if◌then◌else◌, List, [], ◌∷◌, ◌++◌, length, take, fold, scan, sum_by, slice_index, slice_index_or, Option, Some, None, Result, Ok, Err}
use Rattle.std.specs.List.{slice_split, enumerate_from, filter_map}
use Rattle.history.specs.raid_types_Search.{least_below}
use Rattle.script.specs.Grammar.{is_span, is_for_lanes, meaning_of}
use Rattle.script.specs.declared.lines.Line.{Line}
use Rattle.script.specs.declared.lines.Line.TheVariants.{Read, Write, Step, Wait}
use Rattle.script.specs.declared.lines.Numbered.{Numbered}
use Rattle.script.specs.declared.lines.ScriptFault.{ScriptFault}
use Rattle.script.specs.declared.lines.ScriptFault.TheVariants.{BadLine, NoMemory}
use Rattle.script.specs.declared.grammar.Meaning.{Meaning}
use Rattle.script.specs.declared.grammar.Meaning.TheVariants.{PassedOver, Opens, Asks, Bad}
use Rattle.script.specs.declared.reply.Lane.{Lane}
use Rattle.script.specs.declared.reply.Lane.TheVariants.{Script, A, B, Worker}

-- The limits of a script: bytes, lines, and sectors read and written in all.
abbrev pub most_bytes : ℕ
most_bytes = 1048576

abbrev pub most_lines : ℕ
most_lines = 65536

abbrev pub most_sectors : ℕ
most_sectors = 262144

-- the text without one newline at its end, which makes no further line
abbrev pub without_end : List ℕ → List ℕ
without_end text = if slice_index text (length text - 1) == 10 then take (length text - 1) text else text

-- the lines: what stands between newlines
abbrev pub lines_of : List ℕ → List (List ℕ)
lines_of text = slice_split (λ b. b == 10) (without_end text)

-- whether the text behind a line of this meaning is inside a block
abbrev pub is_inside_after : Bool → Meaning → Bool
is_inside_after inside Opens = true
is_inside_after inside (Asks Worker line) = false
is_inside_after inside meaning = inside

-- behind this line, and behind several from the text's beginning on: from `together` on, until `end`
abbrev pub is_inside_next : Bool → List ℕ → Bool
is_inside_next inside line = is_inside_after inside (meaning_of inside line)

abbrev pub is_inside : List (List ℕ) → Bool
is_inside lines = fold is_inside_next false lines

-- what these lines mean, one after another
abbrev pub meanings : List (List ℕ) → List Meaning
meanings lines = scan is_inside_next meaning_of false lines

-- what they ask, in order, each with its number and its lane
abbrev pub numbered : ℕ → Meaning → Option Numbered
numbered n (Asks lane line) = Some (record { number = n; lane = lane; line = line })
numbered n meaning = None

abbrev pub asked : List (List ℕ) → List Numbered
asked lines = filter_map (λ p. numbered p.0 p.1) (enumerate_from 1 (meanings lines))

abbrev pub is_of_b : Lane → Bool
is_of_b B = true
is_of_b lane = false

abbrev pub is_of_worker : Lane → Bool
is_of_worker Worker = true
is_of_worker lane = false

-- The same in the order of the replies: of a block all of lane a, then all of lane b, whose lines wait for the block's end, then the worker.
abbrev pub in_turn : List Numbered → List Numbered → List Numbered
in_turn waiting [] = waiting
in_turn waiting (first ∷ others) =
    if is_of_b first.lane then in_turn (waiting ++ first ∷ []) others
    else if is_of_worker first.lane then waiting ++ first ∷ in_turn [] others
    else first ∷ in_turn waiting others

-- how many sectors a line reads or writes
abbrev pub sectors_of : Line → ℕ
sectors_of (Read start count) = count
sectors_of (Write start count seed) = count
sectors_of line = 0

-- what a line reads or writes is a span, and one for steps asks for at least one
abbrev pub is_within_limits : Line → Bool
is_within_limits (Read start count) = is_span (start, count)
is_within_limits (Write start count seed) = is_span (start, count)
is_within_limits (Step most) = nat_le 1 most
is_within_limits line = true

-- what a lane may ask; the worker asks what `wait` does
abbrev pub may_ask : Lane → Line → Bool
may_ask Script line = true
may_ask A line = is_for_lanes line
may_ask B line = is_for_lanes line
may_ask Worker Wait = true
may_ask Worker line = false

-- which lane may follow: in a block lane a comes first, then lane b, and the worker last
abbrev pub may_follow : Lane → Lane → Bool
may_follow A Script = false
may_follow B Script = false
may_follow B A = false
may_follow before lane = true

-- lines in turn, behind one of this lane; the last ends its block
abbrev pub are_in_turn : Lane → List Numbered → Bool
are_in_turn former [] = may_follow former Script
are_in_turn former (first ∷ others) = may_follow former first.lane && are_in_turn first.lane others

abbrev pub total_sectors : List Numbered → ℕ
total_sectors asked = sum_by (λ numbered. sectors_of numbered.line) asked

-- Refused are a line that isn't in the grammar, one that goes past the limit with those before it, and, where blocks aren't taken, one that
-- opens a block.
abbrev pub is_refused : Bool → List Numbered → Meaning → Bool
is_refused blocks before Bad = true
is_refused blocks before PassedOver = false
is_refused blocks before Opens = not blocks
is_refused blocks before (Asks lane line) = nat_lt most_sectors (total_sectors before + sectors_of line)

-- the line behind the first k is bad
abbrev pub is_bad : Bool → List (List ℕ) → ℕ → Bool
is_bad blocks lines k =
    nat_le most_lines k
    || is_refused blocks (asked (take k lines)) (meaning_of (is_inside (take k lines)) (slice_index_or lines k []))

-- the bad line, the one past the last where a block is open there, or what the lines ask
abbrev pub unless_bad : Option ℕ → List (List ℕ) → Result (List Numbered) ℕ
unless_bad (Some k) lines = Err (k + 1)
unless_bad None lines = if is_inside lines then Err (length lines + 1) else Ok (in_turn [] (asked lines))

-- What the script asks, or the number of its first bad line, which is 0 where the text is too long. Blocks are taken or not.
unfoldable pub script_with : Bool → List ℕ → Result (List Numbered) ℕ
script_with blocks text =
    if nat_lt most_bytes (length text) then Err 0
    else unless_bad (least_below (length (lines_of text)) (is_bad blocks (lines_of text))) (lines_of text)

-- the scripts that are performed so far have no blocks
abbrev pub script_of : List ℕ → Result (List Numbered) ℕ
script_of text = script_with false text

-- why a script isn't taken: its first bad line, or want of memory
abbrev pub IsFaultOf : Bool → List ℕ → ScriptFault → Type 0
IsFaultOf blocks text (BadLine n) = script_with blocks text ≡ Err n
IsFaultOf blocks text NoMemory = Unit {0}
