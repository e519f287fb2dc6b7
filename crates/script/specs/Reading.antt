-- How a line is read: its words from left to right, each taken for what may stand there, up to the first that may not.
use Rattle.std.specs.Prelude.{ℕ, ◌+◌, ◌-◌, ◌^◌, Bool, ◌&&◌, ◌||◌, not, ◌==◌, true, false, nat_lt, nat_le, if◌then◌else◌, List, [], ◌∷◌, length, drop, slice_index, bytes_eq, codes, Option, Some, None, unwrap_or, Result, Ok, Err}
use Rattle.std.specs.List.{list_all}
use Rattle.std.specs.Option.{is_some}
use Rattle.std.specs.Char.{is_ascii_digit}
use Rattle.std.specs.Str.Parse.{digits_value}
use Rattle.uuid.specs.Text.{parsed}
use Rattle.history.specs.raid_types_the_Shape.{Shape}
use Rattle.script_words.specs.raid_types_the_Wish.{Wish}
use Rattle.script_words.specs.raid_types_the_WishedLayout.{WishedLayout}
use Rattle.script_words.specs.raid_types_the_WishedLayout_TheVariants.{Named, Preserve, Normalise}
use Rattle.script_words.specs.Layouts.{layout_named}
use Rattle.script.specs.Tables.{all_verbs, verb_in, all_block_words, block_word_in, keys_of, key_name, key_in}
use Rattle.script.specs.declared.keyed.Given.{Given}
use Rattle.script.specs.declared.lines.Line.{Line}
use Rattle.script.specs.declared.lines.Line.TheVariants.{Create, Read, Write, Flush, Fail, Add, Step, Wait, ArraySize, Grow, Stop, Halt, Detail, Mdstat, Alerts, Examine, Assemble}
use Rattle.script.specs.declared.grammar.Meaning.{Meaning}
use Rattle.script.specs.declared.grammar.Meaning.TheVariants.{Opens, Asks}
use Rattle.script.specs.declared.mistakes.Mistake.{Mistake}
use Rattle.script.specs.declared.mistakes.Mistake.TheVariants.{UnknownWord, WordElsewhere, TooMany, Missing, MissingKey, UnknownKey, TwiceKey, NotANumber, LeadingZero, OutOfRange, NotALimit, NotAUuid, NotALayout}
use Rattle.script.specs.declared.mistakes.Place.{Place}
use Rattle.script.specs.declared.mistakes.Place.TheVariants.{Outside, Block, Lane as InLane}
use Rattle.script.specs.declared.mistakes.Value.{Value}
use Rattle.script.specs.declared.mistakes.Value.TheVariants.{Word, Start, Count, Seed, Role, Slot, Steps, Limit, Uuid, AnyKey}
use Rattle.script.specs.declared.mistakes.Wrong.{Wrong}
use Rattle.script.specs.declared.reply.Lane.{Lane}
use Rattle.script.specs.declared.reply.Lane.TheVariants.{Script, A, B, Worker}
use Rattle.script.specs.declared.tables.Verb.{Verb}
use Rattle.script.specs.declared.tables.Verb.TheVariants.{Create as ToCreate, Assemble as ToAssemble, Read as ToRead, Write as ToWrite, Flush as ToFlush, Fail as ToFail, Add as ToAdd, Step as ToStep, Wait as ToWait, ArraySize as ToSize, Grow as ToGrow, Stop as ToStop, Halt as ToHalt, Detail as ToDetail, Mdstat as ToMdstat, Examine as ToExamine, Alerts as ToAlerts}
use Rattle.script.specs.declared.tables.BlockWord.{BlockWord}
use Rattle.script.specs.declared.tables.BlockWord.TheVariants.{Together, A as NameA, B as NameB, End}
use Rattle.script.specs.declared.tables.Key.{Key}
use Rattle.script.specs.declared.tables.Key.TheVariants.{Level, Disks, Chunk, Layout, LayoutWish, Size, Offset}

-- with what was read, on to the next
abbrev pub goes_on : {A B E : Type 0} → Result A E → (A → Result B E) → Result B E
goes_on (Ok x) next = next x
goes_on (Err e) next = Err e

-- a mistake at the first of these words, or at the line's end
abbrev pub wrong_at : List (List ℕ) → ℕ → Mistake → Wrong
wrong_at words skip mistake = record { left = length words; skip = skip; mistake = mistake }

abbrev pub wrongly : {A : Type 0} → List (List ℕ) → ℕ → Result A Mistake → Result A Wrong
wrongly words skip (Ok x) = Ok x
wrongly words skip (Err mistake) = Err (wrong_at words skip mistake)

abbrev pub are_digits : List ℕ → Bool
are_digits word = nat_lt 0 (length word) && list_all is_ascii_digit word

abbrev pub within : ℕ → ℕ → ℕ → Result ℕ Mistake
within least most n = if nat_le least n && nat_le n most then Ok n else Err (OutOfRange least most)

-- a number from the least to the most
abbrev pub judge_number : ℕ → ℕ → List ℕ → Result ℕ Mistake
judge_number least most word =
    if not (are_digits word) then Err (NotANumber least most)
    else if (slice_index word 0 == 48) && nat_lt 1 (length word) then Err (LeadingZero least most)
    else within least most (digits_value 10 word)

-- `max`, or a number
abbrev pub judge_limit : List ℕ → Result (Option ℕ) Mistake
judge_limit word =
    if bytes_eq word (codes "max") then Ok None
    else if not (are_digits word) then Err NotALimit
    else goes_on (judge_number 0 (2 ^ 64 - 1) word) (λ n. Ok (Some n))

abbrev pub or_mistake : {A : Type 0} → Mistake → Option A → Result A Mistake
or_mistake mistake (Some x) = Ok x
or_mistake mistake None = Err mistake

abbrev pub judge_uuid : List ℕ → Result (List ℕ) Mistake
judge_uuid word = or_mistake NotAUuid (parsed word)

abbrev pub judge_layout : List ℕ → Result ℕ Mistake
judge_layout word = or_mistake (NotALayout Layout) (layout_named word)

abbrev pub judge_wish : List ℕ → Result WishedLayout Mistake
judge_wish word =
    if bytes_eq word (codes "preserve") then Ok Preserve
    else if bytes_eq word (codes "normalise") then Ok Normalise
    else goes_on (or_mistake (NotALayout LayoutWish) (layout_named word)) (λ n. Ok (Named n))

-- what the next word is taken for
abbrev pub at_value : {A : Type 0} → (List ℕ → Result A Mistake) → Value → List (List ℕ) → Result A Wrong
at_value judge value [] = Err (wrong_at [] 0 (Missing value))
at_value judge value (word ∷ words) = wrongly (word ∷ words) 0 (judge word)

-- no word may follow
abbrev pub end_of : {A : Type 0} → A → List (List ℕ) → Result A Wrong
end_of meaning [] = Ok meaning
end_of meaning (word ∷ words) = Err (wrong_at (word ∷ words) 0 TooMany)

-- the sectors that may be asked for from this one on
abbrev pub most_after : ℕ → ℕ
most_after start = if nat_lt (2 ^ 63 - 1 - start) 128 then 2 ^ 63 - 1 - start else 128

abbrev pub small : List ℕ → Result ℕ Mistake
small word = judge_number 0 (2 ^ 32 - 1) word

-- ---- keys

abbrev pub nothing_given : Given
nothing_given = record { level = None; disks = None; chunk = None; layout = None; layout_wish = None; size = None; offset = None }

abbrev pub has_given : Given → Key → Bool
has_given given Level = is_some given.level
has_given given Disks = is_some given.disks
has_given given Chunk = is_some given.chunk
has_given given Layout = is_some given.layout
has_given given LayoutWish = is_some given.layout_wish
has_given given Size = is_some given.size
has_given given Offset = is_some given.offset

-- with the value of one more key
abbrev pub give : Given → Key → List ℕ → Result Given Mistake
give given Level value = goes_on (small value) (λ n. Ok (record given { level = Some n }))
give given Disks value = goes_on (small value) (λ n. Ok (record given { disks = Some n }))
give given Chunk value = goes_on (small value) (λ n. Ok (record given { chunk = Some n }))
give given Layout value = goes_on (judge_layout value) (λ n. Ok (record given { layout = Some n }))
give given LayoutWish value = goes_on (judge_wish value) (λ w. Ok (record given { layout_wish = Some w }))
give given Size value = goes_on (judge_number 0 (2 ^ 64 - 1) value) (λ n. Ok (record given { size = Some n }))
give given Offset value = goes_on (judge_number 0 (2 ^ 64 - 1) value) (λ n. Ok (record given { offset = Some n }))

-- with what the word gives that stands first of these
abbrev pub take_by : Given → Verb → List ℕ → List (List ℕ) → Option Key → Result Given Wrong
take_by given verb word words None = Err (wrong_at words 0 (UnknownKey verb))
take_by given verb word words (Some key) =
    if has_given given key then Err (wrong_at words 0 (TwiceKey key))
    else wrongly words (length (key_name key)) (give given key (drop (length (key_name key)) word))

abbrev pub take_key : Given → Verb → List ℕ → List (List ℕ) → Result Given Wrong
take_key given verb word words = take_by given verb word words (key_in (keys_of verb) word)

abbrev pub read_keys : Verb → Given → List (List ℕ) → Result Given Wrong
read_keys verb given [] = Ok given
read_keys verb given (word ∷ words) = goes_on (take_key given verb word (word ∷ words)) (λ more. read_keys verb more words)

abbrev pub create_with : List ℕ → Given → Option ℕ → Option ℕ → Option ℕ → Result Line Mistake
create_with uuid given None disks size = Err (MissingKey Level)
create_with uuid given (Some level) None size = Err (MissingKey Disks)
create_with uuid given (Some level) (Some disks) None = Err (MissingKey Size)
create_with uuid given (Some level) (Some disks) (Some size) =
    Ok (Create (record {
      uuid = uuid;
      shape = record { level = level; layout = unwrap_or given.layout 2; chunk = unwrap_or given.chunk 1024; disks = disks };
      size = size;
      offset = unwrap_or given.offset 2048;
    }))

abbrev pub create_line : List ℕ → Given → Result Line Mistake
create_line uuid given = create_with uuid given given.level given.disks given.size

abbrev pub create_from : List ℕ → List (List ℕ) → Result Line Wrong
create_from uuid words = goes_on (read_keys ToCreate nothing_given words) (λ given. wrongly [] 0 (create_line uuid given))

abbrev pub wish_line : Given → Line
wish_line given = Grow (record { level = given.level; disks = given.disks; chunk = given.chunk; layout = given.layout_wish })

abbrev pub grow_from : List (List ℕ) → Result Line Wrong
grow_from [] = Err (wrong_at [] 0 (Missing AnyKey))
grow_from (word ∷ words) = goes_on (read_keys ToGrow nothing_given (word ∷ words)) (λ given. Ok (wish_line given))

-- ---- lines

abbrev pub read_create : List (List ℕ) → Result Line Wrong
read_create words = goes_on (at_value judge_uuid Uuid words) (λ uuid. create_from uuid (drop 1 words))

abbrev pub read_assemble : List (List ℕ) → Result Line Wrong
read_assemble [] = Ok (Assemble None)
read_assemble (word ∷ words) = goes_on (at_value judge_uuid Uuid (word ∷ words)) (λ uuid. end_of (Assemble (Some uuid)) words)

abbrev pub read_read : List (List ℕ) → Result Line Wrong
read_read words =
    goes_on (at_value (judge_number 0 (2 ^ 63 - 2)) Start words)
    (λ x. goes_on (at_value (judge_number 1 (most_after x)) Count (drop 1 words)) (λ n. end_of (Read x n) (drop 1 (drop 1 words))))

abbrev pub read_write : List (List ℕ) → Result Line Wrong
read_write words =
    goes_on (at_value (judge_number 0 (2 ^ 63 - 2)) Start words)
    (λ x. goes_on (at_value (judge_number 1 (most_after x)) Count (drop 1 words))
    (λ n. goes_on (at_value small Seed (drop 1 (drop 1 words))) (λ seed. end_of (Write x n seed) (drop 1 (drop 1 (drop 1 words))))))

-- a line of one number
abbrev pub read_one : {A : Type 0} → (List ℕ → Result A Mistake) → Value → (A → Line) → List (List ℕ) → Result Line Wrong
read_one judge value line words = goes_on (at_value judge value words) (λ n. end_of (line n) (drop 1 words))

-- by the words behind the first
abbrev pub read_verb : Verb → List (List ℕ) → Result Line Wrong
read_verb ToCreate words = read_create words
read_verb ToAssemble words = read_assemble words
read_verb ToRead words = read_read words
read_verb ToWrite words = read_write words
read_verb ToFlush words = end_of Flush words
read_verb ToFail words = read_one small Role (λ n. Fail n) words
read_verb ToAdd words = read_one small Slot (λ n. Add n) words
read_verb ToStep words = read_one (judge_number 1 (2 ^ 32 - 1)) Steps (λ n. Step n) words
read_verb ToWait words = end_of Wait words
read_verb ToSize words = read_one judge_limit Limit (λ limit. ArraySize limit) words
read_verb ToGrow words = grow_from words
read_verb ToStop words = end_of Stop words
read_verb ToHalt words = end_of Halt words
read_verb ToDetail words = end_of Detail words
read_verb ToMdstat words = end_of Mdstat words
read_verb ToExamine words = read_one small Slot (λ n. Examine n) words
read_verb ToAlerts words = end_of Alerts words

abbrev pub is_for_lanes_verb : Verb → Bool
is_for_lanes_verb ToRead = true
is_for_lanes_verb ToWrite = true
is_for_lanes_verb ToFlush = true
is_for_lanes_verb ToFail = true
is_for_lanes_verb verb = false

abbrev pub asked_by : Lane → Result Line Wrong → Result Meaning Wrong
asked_by lane (Ok line) = Ok (Asks lane line)
asked_by lane (Err wrong) = Err wrong

-- a word that is none of those wanted here: known elsewhere, or not at all
abbrev pub misplaced : Place → List (List ℕ) → Bool → Result Meaning Wrong
misplaced place words true = Err (wrong_at words 0 (WordElsewhere place))
misplaced place words false = Err (wrong_at words 0 (UnknownWord place))

abbrev pub lane_by : Lane → List (List ℕ) → List (List ℕ) → Option BlockWord → Option Verb → Result Meaning Wrong
lane_by lane words values known (Some verb) =
    if is_for_lanes_verb verb then asked_by lane (read_verb verb values) else misplaced InLane words true
lane_by lane words values known None = misplaced InLane words (is_some known)

abbrev pub read_lane : Lane → List (List ℕ) → Result Meaning Wrong
read_lane lane [] = Err (wrong_at [] 0 (Missing Word))
read_lane lane (word ∷ words) = lane_by lane (word ∷ words) words (block_word_in all_block_words word) (verb_in all_verbs word)

abbrev pub outside_by : List (List ℕ) → List (List ℕ) → Option BlockWord → Option Verb → Result Meaning Wrong
outside_by words values known (Some verb) = asked_by Script (read_verb verb values)
outside_by words values (Some Together) None = end_of Opens values
outside_by words values known None = misplaced Outside words (is_some known)

abbrev pub read_outside : List (List ℕ) → Result Meaning Wrong
read_outside [] = Err (wrong_at [] 0 (Missing Word))
read_outside (word ∷ words) = outside_by (word ∷ words) words (block_word_in all_block_words word) (verb_in all_verbs word)

abbrev pub inside_by : List (List ℕ) → List (List ℕ) → Option Verb → Option BlockWord → Result Meaning Wrong
inside_by words values verb (Some NameA) = read_lane A values
inside_by words values verb (Some NameB) = read_lane B values
inside_by words values verb (Some End) = end_of (Asks Worker Wait) values
inside_by words values verb (Some Together) = misplaced Block words true
inside_by words values verb None = misplaced Block words (is_some verb)

abbrev pub read_inside : List (List ℕ) → Result Meaning Wrong
read_inside [] = Err (wrong_at [] 0 (Missing Word))
read_inside (word ∷ words) = inside_by (word ∷ words) words (verb_in all_verbs word) (block_word_in all_block_words word)

abbrev pub read_words : Bool → List (List ℕ) → Result Meaning Wrong
read_words inside words = if inside then read_inside words else read_outside words
