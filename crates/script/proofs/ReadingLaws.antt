-- What is read from left to right is what the grammar names.
use Rattle.std.proofs.Common.{◌≡◌, ℕ, ◌+◌, ◌-◌, ◌^◌, ◌≤◌, Bool, true, false, ◌&&◌, ◌||◌, not, cond, ltb, leb, List, [], ◌∷◌, length, take, drop, Option, Some, None, Result, Ok, Err, refl, sym, ap, ap₂, ◌∙◌, arith, true≢false, codes}
use Rattle.std.specs.Str.{bytes_eq}
use Rattle.std.proofs.lemmas.Slice.Eq.{bytes_eq-Decides}
use Rattle.std.specs.Option.{option_and_then, option_map, is_some, unwrap_or}
use Rattle.std.specs.Result.{result_ok}
use Rattle.std.specs.List.{list_all}
use Rattle.uuid.specs.Text.{parsed}
use Rattle.script_words.specs.Keys.{has_key, given_number}
use Rattle.script_words.specs.Shapes.{shape_of}
use Rattle.script_words.specs.Numbers.{number_below}
use Rattle.script.specs.Grammar.{line_of, alone, array_from, create_of, assemble_of, read_of, write_of, fail_of, add_of, step_of, array_size_of, limit_given, grow_of, examine_of, span_of, create_keys, asks_for, for_lanes, is_for_lanes, opens, outside_of, inside_of}
use Rattle.script.specs.Tables.{all_verbs, verb_in, verb_name, all_block_words, block_word_in, block_word_name}
use Rattle.script.specs.Reading.{goes_on, wrong_at, wrongly, judge_number, judge_limit, judge_uuid, or_mistake, small, most_after, at_value, end_of, read_one, read_read, read_write, read_create, read_assemble, grow_from, create_from, create_line, create_with, read_keys, nothing_given, wish_line, read_verb, are_digits, is_for_lanes_verb, asked_by, misplaced, lane_by, read_lane, outside_by, read_outside, inside_by, read_inside, read_words}
use Rattle.script.specs.declared.lines.Line.{Line}
use Rattle.script.specs.declared.lines.Line.TheVariants.{Create, Read, Write, Flush, Fail, Add, Step, Wait, ArraySize, Grow, Stop, Halt, Detail, Mdstat, Alerts, Examine, Assemble}
use Rattle.script.specs.declared.grammar.Meaning.{Meaning}
use Rattle.script.specs.declared.grammar.Meaning.TheVariants.{PassedOver, Opens, Asks, Bad}
use Rattle.script.specs.declared.keyed.Given.{Given}
use Rattle.script.specs.declared.mistakes.Mistake.{Mistake}
use Rattle.script.specs.declared.mistakes.Mistake.TheVariants.{NotAUuid, NotALimit, TooMany}
use Rattle.script.specs.declared.mistakes.Place.{Place}
use Rattle.script.specs.declared.mistakes.Place.TheVariants.{Outside, Block, Lane as InLane}
use Rattle.script.specs.declared.mistakes.Value.{Value}
use Rattle.script.specs.declared.mistakes.Value.TheVariants.{Start, Count, Seed, Role, Slot, Steps, Limit, Uuid}
use Rattle.script.specs.declared.mistakes.Wrong.{Wrong}
use Rattle.script.specs.declared.reply.Lane.{Lane}
use Rattle.script.specs.declared.reply.Lane.TheVariants.{Script, A, B, Worker}
use Rattle.script.specs.declared.tables.Verb.{Verb}
use Rattle.script.specs.declared.tables.Verb.TheVariants.{Create as ToCreate, Assemble as ToAssemble, Read as ToRead, Write as ToWrite, Flush as ToFlush, Fail as ToFail, Add as ToAdd, Step as ToStep, Wait as ToWait, ArraySize as ToSize, Grow as ToGrow, Stop as ToStop, Halt as ToHalt, Detail as ToDetail, Mdstat as ToMdstat, Examine as ToExamine, Alerts as ToAlerts}
use Rattle.script.specs.declared.tables.BlockWord.{BlockWord}
use Rattle.script.specs.declared.tables.BlockWord.TheVariants.{Together, A as NameA, B as NameB, End}
use Rattle.script.proofs.NumberLaws.{number_means, number_means_from, span_means}
use Rattle.script.proofs.KeyLaws.{create_means, grow_means}

ok_then : {X Y : Type 0} (words : List (List ℕ)) (skip : ℕ) (r : Result X Mistake) (f : X → Result Y Wrong)
    → result_ok (goes_on (wrongly words skip r) f) ≡ option_and_then (λ x. result_ok (f x)) (result_ok r)
ok_then words skip (Ok x) f = refl
ok_then words skip (Err e) f = refl

none_then : {X Y : Type 0} (o : Option X) → let none : Option Y = None in option_and_then (λ x. none) o ≡ none
none_then None = refl
none_then (Some x) = refl

mapped : {X Y : Type 0} (f : X → Y) (o : Option X) → option_and_then (λ x. Some (f x)) o ≡ option_map f o
mapped f None = refl
mapped f (Some x) = refl

small_means : (word : List ℕ) → result_ok (small word) ≡ number_below (2 ^ 32) word
small_means word = number_means (2 ^ 32 - 1) (2 ^ 32) refl word

alone_means : (line : Line) (words : List (List ℕ)) → result_ok (end_of line words) ≡ alone line words
alone_means line [] = refl
alone_means line (word ∷ words) = refl

-- a line of one value
module _ {X : Type 0} (judge : List ℕ → Result X Mistake) (value : Value) (line : X → Line) (read : List ℕ → Option X) (same : (word : List ℕ) → result_ok (judge word) ≡ read word) where
  one_means : (word : List ℕ) → result_ok (read_one judge value line (word ∷ [])) ≡ option_map line (read word)
  one_means word = ok_then (word ∷ []) 0 (judge word) (λ x. Ok (line x)) ∙ ap (option_and_then (λ x. Some (line x))) (same word) ∙ mapped line (read word)

  more_means : (word other : List ℕ) (words : List (List ℕ)) → result_ok (read_one judge value line (word ∷ other ∷ words)) ≡ None
  more_means word other words = ok_then (word ∷ other ∷ words) 0 (judge word) (λ x. end_of (line x) (other ∷ words)) ∙ none_then (result_ok (judge word))

fail_means : (words : List (List ℕ)) → result_ok (read_one small Role (λ n. Fail n) words) ≡ fail_of words
fail_means [] = refl
fail_means (word ∷ []) = one_means small Role (λ n. Fail n) (number_below (2 ^ 32)) small_means word
fail_means (word ∷ other ∷ words) = more_means small Role (λ n. Fail n) (number_below (2 ^ 32)) small_means word other words

add_means : (words : List (List ℕ)) → result_ok (read_one small Slot (λ n. Add n) words) ≡ add_of words
add_means [] = refl
add_means (word ∷ []) = one_means small Slot (λ n. Add n) (number_below (2 ^ 32)) small_means word
add_means (word ∷ other ∷ words) = more_means small Slot (λ n. Add n) (number_below (2 ^ 32)) small_means word other words

examine_means : (words : List (List ℕ)) → result_ok (read_one small Slot (λ n. Examine n) words) ≡ examine_of words
examine_means [] = refl
examine_means (word ∷ []) = one_means small Slot (λ n. Examine n) (number_below (2 ^ 32)) small_means word
examine_means (word ∷ other ∷ words) = more_means small Slot (λ n. Examine n) (number_below (2 ^ 32)) small_means word other words

step_means : (words : List (List ℕ)) → result_ok (read_one (judge_number 1 (2 ^ 32 - 1)) Steps (λ n. Step n) words) ≡ step_of words
step_means [] = refl
step_means (word ∷ []) =
    one_means (judge_number 1 (2 ^ 32 - 1)) Steps (λ n. Step n) (λ w. option_and_then (λ n. cond (leb 1 n) (Some n) None) (number_below (2 ^ 32) w)) (number_means_from 1 (2 ^ 32 - 1) (2 ^ 32) refl) word
    ∙ by_number (number_below (2 ^ 32) word)
  where
    by_most : (n : ℕ) (b : Bool) → option_map (λ n. Step n) (cond b (Some n) None) ≡ cond b (Some (Step n)) None
    by_most n true = refl
    by_most n false = refl

    by_number : (o : Option ℕ) → option_map (λ n. Step n) (option_and_then (λ n. cond (leb 1 n) (Some n) None) o) ≡ option_and_then (λ n. cond (leb 1 n) (Some (Step n)) None) o
    by_number None = refl
    by_number (Some n) = by_most n (leb 1 n)
step_means (word ∷ other ∷ words) =
    more_means (judge_number 1 (2 ^ 32 - 1)) Steps (λ n. Step n) (λ w. option_and_then (λ n. cond (leb 1 n) (Some n) None) (number_below (2 ^ 32) w)) (number_means_from 1 (2 ^ 32 - 1) (2 ^ 32) refl) word other words

pub limit_means : (word : List ℕ) → result_ok (judge_limit word) ≡ limit_given word
limit_means word = by_name (bytes_eq word (codes "max")) (are_digits word) refl
  where
    some : (r : Result ℕ Mistake) → result_ok (goes_on r (λ n. Ok (Some n))) ≡ option_map (λ n. Some n) (result_ok r)
    some (Ok n) = refl
    some (Err e) = refl

    number : result_ok (goes_on (judge_number 0 (2 ^ 64 - 1) word) (λ n. Ok (Some n))) ≡ option_map (λ n. Some n) (number_below (2 ^ 64) word)
    number = some (judge_number 0 (2 ^ 64 - 1) word) ∙ ap (option_map (λ n. Some n)) (number_means (2 ^ 64 - 1) (2 ^ 64) refl word)

    not_digits : are_digits word ≡ false → number_below (2 ^ 64) word ≡ None
    not_digits e = rw e refl

    by_name : (m d : Bool) → are_digits word ≡ d
        → result_ok (cond m (Ok None) (cond (not d) (Err NotALimit) (goes_on (judge_number 0 (2 ^ 64 - 1) word) (λ n. Ok (Some n)))))
        ≡ cond m (Some None) (option_map (λ n. Some n) (number_below (2 ^ 64) word))
    by_name true d e = refl
    by_name false true e = number
    by_name false false e = sym (ap (option_map (λ n. Some n)) (not_digits e))

size_means : (words : List (List ℕ)) → result_ok (read_one judge_limit Limit (λ limit. ArraySize limit) words) ≡ array_size_of words
size_means [] = refl
size_means (word ∷ []) = one_means judge_limit Limit (λ limit. ArraySize limit) limit_given limit_means word
size_means (word ∷ other ∷ words) = more_means judge_limit Limit (λ limit. ArraySize limit) limit_given limit_means word other words

pub uuid_means : (word : List ℕ) → result_ok (judge_uuid word) ≡ parsed word
uuid_means word = by_uuid (parsed word)
  where
    by_uuid : (o : Option (List ℕ)) → result_ok (or_mistake NotAUuid o) ≡ o
    by_uuid None = refl
    by_uuid (Some u) = refl

assemble_means : (words : List (List ℕ)) → result_ok (read_assemble words) ≡ assemble_of words
assemble_means [] = refl
assemble_means (word ∷ []) =
    ok_then (word ∷ []) 0 (judge_uuid word) (λ u. Ok (Assemble (Some u))) ∙ ap (option_and_then (λ u. Some (Assemble (Some u)))) (uuid_means word)
    ∙ mapped (λ u. Assemble (Some u)) (parsed word)
assemble_means (word ∷ other ∷ words) =
    ok_then (word ∷ other ∷ words) 0 (judge_uuid word) (λ u. end_of (Assemble (Some u)) (other ∷ words)) ∙ none_then (result_ok (judge_uuid word))

module _ {Y : Type 0} (x count : List ℕ) (words : List (List ℕ)) (make : ℕ → ℕ → Result Y Wrong) where
  both_then
      : result_ok (goes_on (wrongly (x ∷ count ∷ words) 0 (judge_number 0 (2 ^ 63 - 2) x)) (λ a. goes_on (wrongly (count ∷ words) 0 (judge_number 1 (most_after a) count)) (make a)))
      ≡ option_and_then (λ (span : ℕ × ℕ). result_ok (make span.0 span.1)) (span_of x count)
  both_then =
      ok_then (x ∷ count ∷ words) 0 (judge_number 0 (2 ^ 63 - 2) x) (λ a. goes_on (wrongly (count ∷ words) 0 (judge_number 1 (most_after a) count)) (make a))
      ∙ inner (result_ok (judge_number 0 (2 ^ 63 - 2) x))
      ∙ span_means (λ a n. result_ok (make a n)) x count
    where
      inner : (o : Option ℕ)
          → option_and_then (λ a. result_ok (goes_on (wrongly (count ∷ words) 0 (judge_number 1 (most_after a) count)) (make a))) o
          ≡ option_and_then (λ a. option_and_then (λ n. result_ok (make a n)) (result_ok (judge_number 1 (most_after a) count))) o
      inner None = refl
      inner (Some a) = ok_then (count ∷ words) 0 (judge_number 1 (most_after a) count) (make a)

read_means : (words : List (List ℕ)) → result_ok (read_read words) ≡ read_of words
read_means [] = refl
read_means (x ∷ []) =
    ok_then (x ∷ []) 0 (judge_number 0 (2 ^ 63 - 2) x) (λ a. goes_on (at_value (judge_number 1 (most_after a)) Count []) (λ n. end_of (Read a n) []))
    ∙ none_then (result_ok (judge_number 0 (2 ^ 63 - 2) x))
read_means (x ∷ count ∷ []) =
    both_then x count [] (λ a n. Ok (Read a n)) ∙ mapped (λ (span : ℕ × ℕ). Read span.0 span.1) (span_of x count)
read_means (x ∷ count ∷ other ∷ words) =
    both_then x count (other ∷ words) (λ a n. end_of (Read a n) (other ∷ words)) ∙ none_then (span_of x count)

write_means : (words : List (List ℕ)) → result_ok (read_write words) ≡ write_of words
write_means [] = refl
write_means (x ∷ []) =
    ok_then (x ∷ []) 0 (judge_number 0 (2 ^ 63 - 2) x)
    (λ a. goes_on (at_value (judge_number 1 (most_after a)) Count []) (λ n. goes_on (at_value small Seed []) (λ seed. end_of (Write a n seed) [])))
    ∙ none_then (result_ok (judge_number 0 (2 ^ 63 - 2) x))
write_means (x ∷ count ∷ []) =
    both_then x count [] (λ a n. goes_on (at_value small Seed []) (λ seed. end_of (Write a n seed) [])) ∙ none_then (span_of x count)
write_means (x ∷ count ∷ seed ∷ []) =
    both_then x count (seed ∷ []) (λ a n. goes_on (wrongly (seed ∷ []) 0 (small seed)) (λ s. Ok (Write a n s))) ∙ by_span (span_of x count)
  where
    by_span : (o : Option (ℕ × ℕ))
        → option_and_then (λ (span : ℕ × ℕ). result_ok (goes_on (wrongly (seed ∷ []) 0 (small seed)) (λ s. Ok (Write span.0 span.1 s)))) o
        ≡ option_and_then (λ (span : ℕ × ℕ). option_map (λ n. Write span.0 span.1 n) (number_below (2 ^ 32) seed)) o
    by_span None = refl
    by_span (Some span) =
        ok_then (seed ∷ []) 0 (small seed) (λ s. Ok (Write span.0 span.1 s))
        ∙ ap (option_and_then (λ s. Some (Write span.0 span.1 s))) (small_means seed) ∙ mapped (λ n. Write span.0 span.1 n) (number_below (2 ^ 32) seed)
write_means (x ∷ count ∷ seed ∷ other ∷ words) =
    both_then x count (seed ∷ other ∷ words) (λ a n. goes_on (wrongly (seed ∷ other ∷ words) 0 (small seed)) (λ s. end_of (Write a n s) (other ∷ words))) ∙ by_span (span_of x count)
  where
    by_span : (o : Option (ℕ × ℕ))
        → option_and_then (λ (span : ℕ × ℕ). result_ok (goes_on (wrongly (seed ∷ other ∷ words) 0 (small seed)) (λ s. end_of (Write span.0 span.1 s) (other ∷ words)))) o ≡ None
    by_span None = refl
    by_span (Some span) = ok_then (seed ∷ other ∷ words) 0 (small seed) (λ s. end_of (Write span.0 span.1 s) (other ∷ words)) ∙ none_then (result_ok (small seed))

create_line_means : (words : List (List ℕ)) → result_ok (read_create words) ≡ create_of words
create_line_means [] = refl
create_line_means (uuid ∷ words) =
    ok_then (uuid ∷ words) 0 (judge_uuid uuid) (λ u. create_from u words)
    ∙ ap (option_and_then (λ u. result_ok (create_from u words))) (uuid_means uuid)
    ∙ by_uuid (parsed uuid)
  where
    none_either : (all : Bool) → let none : Option Line = None in none ≡ cond all none none
    none_either true = refl
    none_either false = refl

    by_uuid : (o : Option (List ℕ)) → option_and_then (λ u. result_ok (create_from u words)) o
        ≡ cond (list_all (has_key create_keys) words)
        (array_from o (shape_of words) (given_number (2 ^ 64) (codes "size=") None words) (given_number (2 ^ 64) (codes "offset=") (Some (codes "2048")) words)) None
    by_uuid None = none_either (list_all (has_key create_keys) words)
    by_uuid (Some u) = create_means u words

pub line_means : (verb : Verb) (words : List (List ℕ)) → result_ok (read_verb verb words) ≡ line_of (verb_name verb ∷ words)
line_means ToCreate words = create_line_means words
line_means ToAssemble words = assemble_means words
line_means ToRead words = read_means words
line_means ToWrite words = write_means words
line_means ToFlush words = alone_means Flush words
line_means ToFail words = fail_means words
line_means ToAdd words = add_means words
line_means ToStep words = step_means words
line_means ToWait words = alone_means Wait words
line_means ToSize words = size_means words
line_means ToGrow [] = refl
line_means ToGrow (word ∷ words) = grow_means word words
line_means ToStop words = alone_means Stop words
line_means ToHalt words = alone_means Halt words
line_means ToDetail words = alone_means Detail words
line_means ToMdstat words = alone_means Mdstat words
line_means ToExamine words = examine_means words
line_means ToAlerts words = alone_means Alerts words

-- ---- the first word

some_injective : {X : Type 0} {x y : X} → Some x ≡ Some y → x ≡ y
some_injective {x = x} e = ap (λ o. unwrap_or o x) e

is_word : (word name : List ℕ) → bytes_eq word name ≡ true → word ≡ name
is_word word name same = (bytes_eq-Decides word name).0 same

pub verb_in-name : (verbs : List Verb) (word : List ℕ) (verb : Verb) → verb_in verbs word ≡ Some verb → word ≡ verb_name verb
verb_in-name [] word verb found = absurd (cc)
verb_in-name (first ∷ verbs) word verb found = by_first (bytes_eq word (verb_name first)) refl found (verb_in-name verbs word verb)
  where
    by_first : (b : Bool) → bytes_eq word (verb_name first) ≡ b → cond b (Some first) (verb_in verbs word) ≡ Some verb
        → (verb_in verbs word ≡ Some verb → word ≡ verb_name verb) → word ≡ verb_name verb
    by_first true same found later = is_word word (verb_name first) same ∙ ap verb_name (some_injective found)
    by_first false other found later = later found

pub block_word_in-name : (known : List BlockWord) (word : List ℕ) (found : BlockWord) → block_word_in known word ≡ Some found → word ≡ block_word_name found
block_word_in-name [] word found is = absurd (cc)
block_word_in-name (first ∷ known) word found is = by_first (bytes_eq word (block_word_name first)) refl is (block_word_in-name known word found)
  where
    by_first : (b : Bool) → bytes_eq word (block_word_name first) ≡ b → cond b (Some first) (block_word_in known word) ≡ Some found
        → (block_word_in known word ≡ Some found → word ≡ block_word_name found) → word ≡ block_word_name found
    by_first true same is later = is_word word (block_word_name first) same ∙ ap block_word_name (some_injective is)
    by_first false other is later = later is

none_first : {X : Type 0} (b : Bool) (x : X) (others : Option X) → cond b (Some x) others ≡ None → (b ≡ false) × (others ≡ None)
none_first true x others e = absurd (cc)
none_first false x others e = (refl, e)

skip : {X : Type 0} {b : Bool} (x y : X) → b ≡ false → cond b x y ≡ y
skip x y e = ap (λ t. cond t x y) e

-- a word that begins no line
pub no_line : (word : List ℕ) (words : List (List ℕ)) → verb_in all_verbs word ≡ None → line_of (word ∷ words) ≡ None
no_line word words none =
    let p0 = none_first (bytes_eq word (codes "create")) ToCreate (verb_in (ToAssemble ∷ ToRead ∷ ToWrite ∷ ToFlush ∷ ToFail ∷ ToAdd ∷ ToStep ∷ ToWait ∷ ToSize ∷ ToGrow ∷ ToStop ∷ ToHalt ∷ ToDetail ∷ ToMdstat ∷ ToExamine ∷ ToAlerts ∷ []) word) none in
    let p1 = none_first (bytes_eq word (codes "assemble")) ToAssemble (verb_in (ToRead ∷ ToWrite ∷ ToFlush ∷ ToFail ∷ ToAdd ∷ ToStep ∷ ToWait ∷ ToSize ∷ ToGrow ∷ ToStop ∷ ToHalt ∷ ToDetail ∷ ToMdstat ∷ ToExamine ∷ ToAlerts ∷ []) word) p0.1 in
    let p2 = none_first (bytes_eq word (codes "read")) ToRead (verb_in (ToWrite ∷ ToFlush ∷ ToFail ∷ ToAdd ∷ ToStep ∷ ToWait ∷ ToSize ∷ ToGrow ∷ ToStop ∷ ToHalt ∷ ToDetail ∷ ToMdstat ∷ ToExamine ∷ ToAlerts ∷ []) word) p1.1 in
    let p3 = none_first (bytes_eq word (codes "write")) ToWrite (verb_in (ToFlush ∷ ToFail ∷ ToAdd ∷ ToStep ∷ ToWait ∷ ToSize ∷ ToGrow ∷ ToStop ∷ ToHalt ∷ ToDetail ∷ ToMdstat ∷ ToExamine ∷ ToAlerts ∷ []) word) p2.1 in
    let p4 = none_first (bytes_eq word (codes "flush")) ToFlush (verb_in (ToFail ∷ ToAdd ∷ ToStep ∷ ToWait ∷ ToSize ∷ ToGrow ∷ ToStop ∷ ToHalt ∷ ToDetail ∷ ToMdstat ∷ ToExamine ∷ ToAlerts ∷ []) word) p3.1 in
    let p5 = none_first (bytes_eq word (codes "fail")) ToFail (verb_in (ToAdd ∷ ToStep ∷ ToWait ∷ ToSize ∷ ToGrow ∷ ToStop ∷ ToHalt ∷ ToDetail ∷ ToMdstat ∷ ToExamine ∷ ToAlerts ∷ []) word) p4.1 in
    let p6 = none_first (bytes_eq word (codes "add")) ToAdd (verb_in (ToStep ∷ ToWait ∷ ToSize ∷ ToGrow ∷ ToStop ∷ ToHalt ∷ ToDetail ∷ ToMdstat ∷ ToExamine ∷ ToAlerts ∷ []) word) p5.1 in
    let p7 = none_first (bytes_eq word (codes "step")) ToStep (verb_in (ToWait ∷ ToSize ∷ ToGrow ∷ ToStop ∷ ToHalt ∷ ToDetail ∷ ToMdstat ∷ ToExamine ∷ ToAlerts ∷ []) word) p6.1 in
    let p8 = none_first (bytes_eq word (codes "wait")) ToWait (verb_in (ToSize ∷ ToGrow ∷ ToStop ∷ ToHalt ∷ ToDetail ∷ ToMdstat ∷ ToExamine ∷ ToAlerts ∷ []) word) p7.1 in
    let p9 = none_first (bytes_eq word (codes "array-size")) ToSize (verb_in (ToGrow ∷ ToStop ∷ ToHalt ∷ ToDetail ∷ ToMdstat ∷ ToExamine ∷ ToAlerts ∷ []) word) p8.1 in
    let p10 = none_first (bytes_eq word (codes "grow")) ToGrow (verb_in (ToStop ∷ ToHalt ∷ ToDetail ∷ ToMdstat ∷ ToExamine ∷ ToAlerts ∷ []) word) p9.1 in
    let p11 = none_first (bytes_eq word (codes "stop")) ToStop (verb_in (ToHalt ∷ ToDetail ∷ ToMdstat ∷ ToExamine ∷ ToAlerts ∷ []) word) p10.1 in
    let p12 = none_first (bytes_eq word (codes "halt")) ToHalt (verb_in (ToDetail ∷ ToMdstat ∷ ToExamine ∷ ToAlerts ∷ []) word) p11.1 in
    let p13 = none_first (bytes_eq word (codes "detail")) ToDetail (verb_in (ToMdstat ∷ ToExamine ∷ ToAlerts ∷ []) word) p12.1 in
    let p14 = none_first (bytes_eq word (codes "mdstat")) ToMdstat (verb_in (ToExamine ∷ ToAlerts ∷ []) word) p13.1 in
    let p15 = none_first (bytes_eq word (codes "examine")) ToExamine (verb_in (ToAlerts ∷ []) word) p14.1 in
    let p16 = none_first (bytes_eq word (codes "alerts")) ToAlerts (verb_in [] word) p15.1 in
    rw (p0.0, p1.0, p2.0, p3.0, p4.0, p5.0, p6.0, p7.0, p8.0, p9.0, p10.0, p11.0, p12.0, p13.0, p14.0, p15.0, p16.0) refl

abbrev pub of_result : Result Meaning Wrong → Meaning
of_result (Ok meaning) = meaning
of_result (Err wrong) = Bad

asked_means : (lane : Lane) (r : Result Line Wrong) → of_result (asked_by lane r) ≡ asks_for lane (result_ok r)
asked_means lane (Ok line) = refl
asked_means lane (Err wrong) = refl

-- ---- lanes

abbrev lanes_only : Result Line Wrong → Type 0
lanes_only r = for_lanes (result_ok r) ≡ result_ok r

abbrev no_lane : Result Line Wrong → Type 0
no_lane r = for_lanes (result_ok r) ≡ None

module _ {X : Type 0} (r : Result X Wrong) (f : X → Result Line Wrong) where
  lanes_on : ((x : X) → lanes_only (f x)) → lanes_only (goes_on r f)
  lanes_on each = by_result r
    where
      by_result : (q : Result X Wrong) → lanes_only (goes_on q f)
      by_result (Ok x) = each x
      by_result (Err wrong) = refl

  no_lane_on : ((x : X) → no_lane (f x)) → no_lane (goes_on r f)
  no_lane_on each = by_result r
    where
      by_result : (q : Result X Wrong) → no_lane (goes_on q f)
      by_result (Ok x) = each x
      by_result (Err wrong) = refl

ended_lanes : (line : Line) (words : List (List ℕ)) → is_for_lanes line ≡ true → lanes_only (end_of line words)
ended_lanes line [] is_one = ap (λ b. cond b (Some line) None) is_one
ended_lanes line (word ∷ words) is_one = refl

ended_none : (line : Line) (words : List (List ℕ)) → is_for_lanes line ≡ false → no_lane (end_of line words)
ended_none line [] is_none = ap (λ b. cond b (Some line) None) is_none
ended_none line (word ∷ words) is_none = refl

lines_of_lanes : (verb : Verb) (words : List (List ℕ)) → is_for_lanes_verb verb ≡ true → lanes_only (read_verb verb words)
lines_of_lanes ToRead words is_one =
    lanes_on (at_value (judge_number 0 (2 ^ 63 - 2)) Start words) (λ x. goes_on (at_value (judge_number 1 (most_after x)) Count (drop 1 words)) (λ n. end_of (Read x n) (drop 1 (drop 1 words))))
    (λ x. lanes_on (at_value (judge_number 1 (most_after x)) Count (drop 1 words)) (λ n. end_of (Read x n) (drop 1 (drop 1 words)))
    (λ n. ended_lanes (Read x n) (drop 1 (drop 1 words)) refl))
lines_of_lanes ToWrite words is_one =
    lanes_on (at_value (judge_number 0 (2 ^ 63 - 2)) Start words)
    (λ x. goes_on (at_value (judge_number 1 (most_after x)) Count (drop 1 words)) (λ n. goes_on (at_value small Seed (drop 1 (drop 1 words))) (λ seed. end_of (Write x n seed) (drop 1 (drop 1 (drop 1 words))))))
    (λ x. lanes_on (at_value (judge_number 1 (most_after x)) Count (drop 1 words)) (λ n. goes_on (at_value small Seed (drop 1 (drop 1 words))) (λ seed. end_of (Write x n seed) (drop 1 (drop 1 (drop 1 words)))))
    (λ n. lanes_on (at_value small Seed (drop 1 (drop 1 words))) (λ seed. end_of (Write x n seed) (drop 1 (drop 1 (drop 1 words))))
    (λ seed. ended_lanes (Write x n seed) (drop 1 (drop 1 (drop 1 words))) refl)))
lines_of_lanes ToFlush words is_one = ended_lanes Flush words refl
lines_of_lanes ToFail words is_one =
    lanes_on (at_value small Role words) (λ n. end_of (Fail n) (drop 1 words)) (λ n. ended_lanes (Fail n) (drop 1 words) refl)
lines_of_lanes ToCreate words is_one = absurd (true≢false (sym is_one))
lines_of_lanes ToAssemble words is_one = absurd (true≢false (sym is_one))
lines_of_lanes ToAdd words is_one = absurd (true≢false (sym is_one))
lines_of_lanes ToStep words is_one = absurd (true≢false (sym is_one))
lines_of_lanes ToWait words is_one = absurd (true≢false (sym is_one))
lines_of_lanes ToSize words is_one = absurd (true≢false (sym is_one))
lines_of_lanes ToGrow words is_one = absurd (true≢false (sym is_one))
lines_of_lanes ToStop words is_one = absurd (true≢false (sym is_one))
lines_of_lanes ToHalt words is_one = absurd (true≢false (sym is_one))
lines_of_lanes ToDetail words is_one = absurd (true≢false (sym is_one))
lines_of_lanes ToMdstat words is_one = absurd (true≢false (sym is_one))
lines_of_lanes ToExamine words is_one = absurd (true≢false (sym is_one))
lines_of_lanes ToAlerts words is_one = absurd (true≢false (sym is_one))

created_none : (uuid : List ℕ) (given : Given) (l d s : Option ℕ) → for_lanes (result_ok (wrongly [] 0 (create_with uuid given l d s))) ≡ None
created_none uuid given None d s = refl
created_none uuid given (Some l) None s = refl
created_none uuid given (Some l) (Some d) None = refl
created_none uuid given (Some l) (Some d) (Some s) = refl

lines_of_none : (verb : Verb) (words : List (List ℕ)) → is_for_lanes_verb verb ≡ false → no_lane (read_verb verb words)
lines_of_none ToRead words is_none = absurd (true≢false is_none)
lines_of_none ToWrite words is_none = absurd (true≢false is_none)
lines_of_none ToFlush words is_none = absurd (true≢false is_none)
lines_of_none ToFail words is_none = absurd (true≢false is_none)
lines_of_none ToCreate words is_none =
    no_lane_on (at_value judge_uuid Uuid words) (λ uuid. create_from uuid (drop 1 words))
    (λ uuid. no_lane_on (read_keys ToCreate nothing_given (drop 1 words)) (λ given. wrongly [] 0 (create_line uuid given))
    (λ given. created_none uuid given given.level given.disks given.size))
lines_of_none ToAssemble [] is_none = refl
lines_of_none ToAssemble (word ∷ words) is_none =
    no_lane_on (at_value judge_uuid Uuid (word ∷ words)) (λ uuid. end_of (Assemble (Some uuid)) words) (λ uuid. ended_none (Assemble (Some uuid)) words refl)
lines_of_none ToAdd words is_none = no_lane_on (at_value small Slot words) (λ n. end_of (Add n) (drop 1 words)) (λ n. ended_none (Add n) (drop 1 words) refl)
lines_of_none ToStep words is_none =
    no_lane_on (at_value (judge_number 1 (2 ^ 32 - 1)) Steps words) (λ n. end_of (Step n) (drop 1 words)) (λ n. ended_none (Step n) (drop 1 words) refl)
lines_of_none ToWait words is_none = ended_none Wait words refl
lines_of_none ToSize words is_none =
    no_lane_on (at_value judge_limit Limit words) (λ limit. end_of (ArraySize limit) (drop 1 words)) (λ limit. ended_none (ArraySize limit) (drop 1 words) refl)
lines_of_none ToGrow [] is_none = refl
lines_of_none ToGrow (word ∷ words) is_none = no_lane_on (read_keys ToGrow nothing_given (word ∷ words)) (λ given. Ok (wish_line given)) (λ given. refl)
lines_of_none ToStop words is_none = ended_none Stop words refl
lines_of_none ToHalt words is_none = ended_none Halt words refl
lines_of_none ToDetail words is_none = ended_none Detail words refl
lines_of_none ToMdstat words is_none = ended_none Mdstat words refl
lines_of_none ToExamine words is_none = no_lane_on (at_value small Slot words) (λ n. end_of (Examine n) (drop 1 words)) (λ n. ended_none (Examine n) (drop 1 words) refl)
lines_of_none ToAlerts words is_none = ended_none Alerts words refl

pub lane_means : (lane : Lane) (words : List (List ℕ)) → of_result (read_lane lane words) ≡ asks_for lane (for_lanes (line_of words))
lane_means lane [] = refl
lane_means lane (word ∷ words) = by_word (block_word_in all_block_words word) (verb_in all_verbs word) refl
  where
    by_lane : (verb : Verb) (b : Bool) → is_for_lanes_verb verb ≡ b
        → of_result (cond b (asked_by lane (read_verb verb words)) (misplaced InLane (word ∷ words) true))
        ≡ asks_for lane (for_lanes (line_of (verb_name verb ∷ words)))
    by_lane verb true is_one =
        asked_means lane (read_verb verb words) ∙ ap (asks_for lane) (sym (lines_of_lanes verb words is_one) ∙ ap for_lanes (line_means verb words))
    by_lane verb false is_none = ap (asks_for lane) (sym (lines_of_none verb words is_none) ∙ ap for_lanes (line_means verb words))

    misplaced_is_bad : (b : Bool) → of_result (misplaced InLane (word ∷ words) b) ≡ Bad
    misplaced_is_bad true = refl
    misplaced_is_bad false = refl

    by_word : (known : Option BlockWord) (o : Option Verb) → verb_in all_verbs word ≡ o
        → of_result (lane_by lane (word ∷ words) words known o) ≡ asks_for lane (for_lanes (line_of (word ∷ words)))
    by_word known (Some verb) found =
        by_lane verb (is_for_lanes_verb verb) refl ∙ ap (λ w. asks_for lane (for_lanes (line_of (w ∷ words)))) (sym (verb_in-name all_verbs word verb found))
    by_word known None none = misplaced_is_bad (is_some known) ∙ sym (ap (λ o. asks_for lane (for_lanes o)) (no_line word words none))

-- ---- a line outside a block

outside_verb : (verb : Verb) (words : List (List ℕ)) → outside_of (verb_name verb ∷ words) ≡ asks_for Script (line_of (verb_name verb ∷ words))
outside_verb ToCreate words = refl
outside_verb ToAssemble words = refl
outside_verb ToRead words = refl
outside_verb ToWrite words = refl
outside_verb ToFlush words = refl
outside_verb ToFail words = refl
outside_verb ToAdd words = refl
outside_verb ToStep words = refl
outside_verb ToWait words = refl
outside_verb ToSize words = refl
outside_verb ToGrow words = refl
outside_verb ToStop words = refl
outside_verb ToHalt words = refl
outside_verb ToDetail words = refl
outside_verb ToMdstat words = refl
outside_verb ToExamine words = refl
outside_verb ToAlerts words = refl

pub outside_means : (words : List (List ℕ)) → of_result (read_outside words) ≡ outside_of words
outside_means [] = refl
outside_means (word ∷ words) = by_word (verb_in all_verbs word) refl (block_word_in all_block_words word) refl
  where
    known_elsewhere : (found : BlockWord) → of_result (outside_by (word ∷ words) words (Some found) None) ≡ outside_of (block_word_name found ∷ words)
    known_elsewhere Together = ends words
      where
        ends : (ws : List (List ℕ)) → of_result (end_of Opens ws) ≡ opens ws
        ends [] = refl
        ends (w ∷ ws) = refl
    known_elsewhere NameA = refl
    known_elsewhere NameB = refl
    known_elsewhere End = refl

    by_word : (o : Option Verb) → verb_in all_verbs word ≡ o → (known : Option BlockWord) → block_word_in all_block_words word ≡ known
        → of_result (outside_by (word ∷ words) words known o) ≡ outside_of (word ∷ words)
    by_word (Some verb) found known is =
        asked_means Script (read_verb verb words) ∙ ap (asks_for Script) (line_means verb words) ∙ sym (outside_verb verb words)
        ∙ ap (λ w. outside_of (w ∷ words)) (sym (verb_in-name all_verbs word verb found))
    by_word None none (Some found) is =
        known_elsewhere found ∙ ap (λ w. outside_of (w ∷ words)) (sym (block_word_in-name all_block_words word found is))
    by_word None none None is =
        let together = none_first (bytes_eq word (codes "together")) Together (block_word_in (NameA ∷ NameB ∷ End ∷ []) word) is in
        sym (ap (λ b. cond b (opens words) (asks_for Script (line_of (word ∷ words)))) (together.0) ∙ ap (asks_for Script) (no_line word words none))

-- ---- a line of a block

pub inside_means : (words : List (List ℕ)) → of_result (read_inside words) ≡ inside_of words
inside_means [] = refl
inside_means (word ∷ words) = by_word (verb_in all_verbs word) (block_word_in all_block_words word) refl
  where
    misplaced_is_bad : (b : Bool) → of_result (misplaced Block (word ∷ words) b) ≡ Bad
    misplaced_is_bad true = refl
    misplaced_is_bad false = refl

    known : (verb : Option Verb) (found : BlockWord) → of_result (inside_by (word ∷ words) words verb (Some found)) ≡ inside_of (block_word_name found ∷ words)
    known verb Together = refl
    known verb NameA = lane_means A words
    known verb NameB = lane_means B words
    known verb End = ends words
      where
        ends : (ws : List (List ℕ)) → of_result (end_of (Asks Worker Wait) ws) ≡ asks_for Worker (alone Wait ws)
        ends [] = refl
        ends (w ∷ ws) = refl

    by_word : (verb : Option Verb) (o : Option BlockWord) → block_word_in all_block_words word ≡ o
        → of_result (inside_by (word ∷ words) words verb o) ≡ inside_of (word ∷ words)
    by_word verb (Some found) is = known verb found ∙ ap (λ w. inside_of (w ∷ words)) (sym (block_word_in-name all_block_words word found is))
    by_word verb None none =
        let p0 = none_first (bytes_eq word (codes "together")) Together (block_word_in (NameA ∷ NameB ∷ End ∷ []) word) none in
        let p1 = none_first (bytes_eq word (codes "a:")) NameA (block_word_in (NameB ∷ End ∷ []) word) (p0.1) in
        let p2 = none_first (bytes_eq word (codes "b:")) NameB (block_word_in (End ∷ []) word) (p1.1) in
        let p3 = none_first (bytes_eq word (codes "end")) End (block_word_in [] word) (p2.1) in
        misplaced_is_bad (is_some verb) ∙ rw (p1.0, p2.0, p3.0) refl

pub words_mean : (inside : Bool) (words : List (List ℕ)) → of_result (read_words inside words) ≡ cond inside (inside_of words) (outside_of words)
words_mean true words = inside_means words
words_mean false words = outside_means words

-- ---- what is read is never bad

abbrev pub is_good : Result Meaning Wrong → Bool
is_good (Ok Bad) = false
is_good (Ok meaning) = true
is_good (Err wrong) = true

asked_is_good : (lane : Lane) (r : Result Line Wrong) → is_good (asked_by lane r) ≡ true
asked_is_good lane (Ok line) = refl
asked_is_good lane (Err wrong) = refl

misplaced_is_good : (place : Place) (words : List (List ℕ)) (b : Bool) → is_good (misplaced place words b) ≡ true
misplaced_is_good place words true = refl
misplaced_is_good place words false = refl

ended_is_good : (m : Meaning) (words : List (List ℕ)) → is_good (Ok m) ≡ true → is_good (end_of m words) ≡ true
ended_is_good m [] good = good
ended_is_good m (word ∷ words) good = refl

lane_is_good : (lane : Lane) (words : List (List ℕ)) → is_good (read_lane lane words) ≡ true
lane_is_good lane [] = refl
lane_is_good lane (word ∷ words) = by_word (block_word_in all_block_words word) (verb_in all_verbs word)
  where
    by_lane : (verb : Verb) (b : Bool) → is_good (cond b (asked_by lane (read_verb verb words)) (misplaced InLane (word ∷ words) true)) ≡ true
    by_lane verb true = asked_is_good lane (read_verb verb words)
    by_lane verb false = refl

    by_word : (known : Option BlockWord) (o : Option Verb) → is_good (lane_by lane (word ∷ words) words known o) ≡ true
    by_word known (Some verb) = by_lane verb (is_for_lanes_verb verb)
    by_word known None = misplaced_is_good InLane (word ∷ words) (is_some known)

outside_is_good : (words : List (List ℕ)) → is_good (read_outside words) ≡ true
outside_is_good [] = refl
outside_is_good (word ∷ words) = by_word (block_word_in all_block_words word) (verb_in all_verbs word)
  where
    by_word : (known : Option BlockWord) (o : Option Verb) → is_good (outside_by (word ∷ words) words known o) ≡ true
    by_word known (Some verb) = asked_is_good Script (read_verb verb words)
    by_word (Some Together) None = ended_is_good Opens words refl
    by_word (Some NameA) None = refl
    by_word (Some NameB) None = refl
    by_word (Some End) None = refl
    by_word None None = refl

inside_is_good : (words : List (List ℕ)) → is_good (read_inside words) ≡ true
inside_is_good [] = refl
inside_is_good (word ∷ words) = by_word (verb_in all_verbs word) (block_word_in all_block_words word)
  where
    by_word : (verb : Option Verb) (o : Option BlockWord) → is_good (inside_by (word ∷ words) words verb o) ≡ true
    by_word verb (Some Together) = refl
    by_word verb (Some NameA) = lane_is_good A words
    by_word verb (Some NameB) = lane_is_good B words
    by_word verb (Some End) = ended_is_good (Asks Worker Wait) words refl
    by_word verb None = misplaced_is_good Block (word ∷ words) (is_some verb)

pub words_are_good : (inside : Bool) (words : List (List ℕ)) → is_good (read_words inside words) ≡ true
words_are_good true words = inside_is_good words
words_are_good false words = outside_is_good words
