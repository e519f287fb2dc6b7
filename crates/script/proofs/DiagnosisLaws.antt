-- What is told of a line is what the grammar makes of it.
use Rattle.std.proofs.Common.{◌≡◌, ◌≢◌, ℕ, suc, ◌+◌, ◌-◌, ◌<◌, ◌≤◌, Bool, true, false, ◌&&◌, ◌||◌, not, cond, ltb, leb, eqb, List, [], ◌∷◌, ◌++◌, length, take, drop, get_or, Option, Some, None, Result, Ok, Err, ◌⊎◌, inl, inr, refl, sym, ap, ap₂, subst, ◌∙◌, arith, true≢false, append_assoc, length-append, zero}
use Rattle.std.proofs.lemmas.Bool.Decides.{nat_tests}
use Rattle.std.proofs.lemmas.List.{get_or-drop, take_all}
use Rattle.std.proofs.Math.Seq.{take-append_seam, drop-append_seam, take-add}
use Rattle.std.specs.Result.{is_ok}
use Rattle.std.specs.List.{list_all, position, position_or_len}
use Rattle.std.proofs.lemmas.List.Sums.{passes_at_first}
use Rattle.script_words.specs.Numbers.{words_of}
use Rattle.script_words.proofs.WordsLaws.{position_some, position_none}
use Rattle.script.specs.Grammar.{meaning_of, is_printable, is_passed_over, inside_of, outside_of}
use Rattle.script.specs.Mistakes.{Says, would_do, GoesWrong, StandsAt, IsBadByte, IsDiagnosis, Begins, is_line, words_meaning}
use Rattle.script.specs.Reading.{read_words}
use Rattle.script.specs.declared.grammar.Meaning.{Meaning}
use Rattle.script.specs.declared.grammar.Meaning.TheVariants.{PassedOver, Opens, Asks, Bad}
use Rattle.script.specs.declared.mistakes.Mistake.{Mistake}
use Rattle.script.specs.declared.mistakes.Mistake.TheVariants.{BadByte, UnknownWord, WordElsewhere, TooMany, Missing, MissingKey, UnknownKey, TwiceKey, NotANumber, LeadingZero, OutOfRange, NotALimit, NotAUuid, NotALayout}
use Rattle.script.specs.declared.mistakes.Wrong.{Wrong}
use Rattle.script.proofs.ReadingLaws.{words_mean, words_are_good, of_result, is_good}
use Rattle.script.proofs.WrongLaws.{Fine}
use Rattle.script.proofs.LineWrongLaws.{words_fine}

-- ---- lines that are whole

good_line : (r : Result Meaning Wrong) → is_good r ≡ true → is_ok r ≡ is_line (of_result r)
good_line (Ok PassedOver) good = refl
good_line (Ok Opens) good = refl
good_line (Ok (Asks lane line)) good = refl
good_line (Ok Bad) good = absurd (true≢false (sym good))
good_line (Err w) good = refl

whole_lines : (inside : Bool) (words : List (List ℕ)) → is_ok (read_words inside words) ≡ is_line (words_meaning inside words)
whole_lines inside words = good_line (read_words inside words) (words_are_good inside words) ∙ ap is_line (words_mean inside words)

says_alike : (lang other : List (List ℕ) → Bool) → ((words : List (List ℕ)) → lang words ≡ other words)
    → (before : List (List ℕ)) (word : List ℕ) (mistake : Mistake) → Says lang before word mistake → Says other before word mistake
says_alike lang other alike before word (BadByte byte) h = h
says_alike lang other alike before word (UnknownWord place) h = h
says_alike lang other alike before word (WordElsewhere place) h = h
says_alike lang other alike before word TooMany h = sym (alike before) ∙ h
says_alike lang other alike before word (Missing value) h = h
says_alike lang other alike before word (MissingKey key) h = λ more whole. h more (alike (before ++ more) ∙ whole)
says_alike lang other alike before word (UnknownKey verb) h = h
says_alike lang other alike before word (TwiceKey key) h = h
says_alike lang other alike before word (NotANumber least most) h = h
says_alike lang other alike before word (LeadingZero least most) h = h
says_alike lang other alike before word (OutOfRange least most) h = h
says_alike lang other alike before word NotALimit h = h
says_alike lang other alike before word NotAUuid h = h
says_alike lang other alike before word (NotALayout key) h = h

module _ (inside : Bool) (words : List (List ℕ)) (w : Wrong) (fine : Fine (λ ws. is_ok (read_words inside ws)) words w) where
  abbrev whole : List (List ℕ) → Bool
  whole ws = is_line (words_meaning inside ws)

  abbrev n : ℕ
  n = length words - w.left

  count : length words - w.left ≡ length fine.before
  count =
      let all : length words ≡ length fine.before + length fine.from = ap length fine.parts ∙ length-append fine.before fine.from in
      omega (arith, all, fine.size)

  begin : take n words ≡ fine.before
  begin = ap₂ take count fine.parts ∙ take-append_seam fine.before fine.from

  rest : drop n words ≡ fine.from
  rest = ap₂ drop count fine.parts ∙ drop-append_seam fine.before fine.from

  first : get_or words n [] ≡ get_or fine.from 0 []
  first =
      let e : length words - w.left ≡ length words - w.left + 0 = omega arith in
      ap (λ k. get_or words k []) e ∙ sym (get_or-drop (length words - w.left) words 0 []) ∙ ap (λ ws. get_or ws 0 []) rest

  begins : (more : List (List ℕ)) → is_ok (read_words inside (fine.before ++ more)) ≡ true → whole (take n words ++ more) ≡ true
  begins more ok = ap (λ b. whole (b ++ more)) begin ∙ sym (whole_lines inside (fine.before ++ more)) ∙ ok

  not_more : (from : List (List ℕ)) → fine.from ≡ from → n < length words → Begins inside (take (n + 1) words) → ⊥
  not_more [] is within on =
      let all : length words ≡ length fine.before + length fine.from = ap length fine.parts ∙ length-append fine.before fine.from in
      let none : length fine.from ≡ 0 = ap length is in
      let c = count in
      absurd (omega (arith, all, none, c, within))
  not_more (word ∷ others) is within on =
      let one : take (n + 1) words ≡ fine.before ++ word ∷ [] =
      take-add n 1 words ∙ ap₂ (λ b f. b ++ take 1 f) begin (rest ∙ is) in
      let stop = fine.wrong word others (on.0) is in
      let line : whole (fine.before ++ word ∷ on.0) ≡ true =
      ap whole (sym (append_assoc fine.before (word ∷ []) (on.0))) ∙ ap (λ b. whole (b ++ on.0)) (sym one) ∙ on.1 in
      true≢false (sym line ∙ sym (whole_lines inside (fine.before ++ word ∷ on.0)) ∙ stop)

  no_more : (from : List (List ℕ)) → fine.from ≡ from → n ≡ length words → fine.from ≡ []
  no_more [] is all = is
  no_more (word ∷ others) is all =
      let sum : length words ≡ length fine.before + length fine.from = ap length fine.parts ∙ length-append fine.before fine.from in
      let some : length fine.from ≡ length others + 1 = ap length is ∙ (let e : length (word ∷ others) ≡ length others + 1 = omega arith in e) in
      let c = count in
      absurd (omega (arith, sum, some, c, all))

  pub goes_wrong : GoesWrong inside words (length words - w.left) w.skip w.mistake
  goes_wrong = record {
    few = omega arith;
    right = (fine.right.0, begins (fine.right.0) (fine.right.1));
    wrong = λ within on. not_more fine.from refl within on;
    lacks = λ all. sym (whole_lines inside words) ∙ fine.lacks (no_more fine.from refl all);
    says =
        let P : List (List ℕ) → List ℕ → Type 0 = λ b f. Says whole b (drop w.skip f) w.mistake in
        let told = says_alike (λ ws. is_ok (read_words inside ws)) whole (whole_lines inside) fine.before (drop w.skip (get_or fine.from 0 [])) w.mistake fine.says in
        subst (λ b. P b (get_or words n [])) (sym begin) (subst (P fine.before) (sym first) told);
    wanted = λ good does.
        let on = fine.wanted good does in (
          on.0,
          ap₂ (λ b f. whole ((b ++ (take w.skip f ++ good) ∷ []) ++ on.0)) begin first
              ∙ ap whole (append_assoc fine.before ((take w.skip (get_or fine.from 0 []) ++ good) ∷ []) (on.0))
              ∙ sym (whole_lines inside (fine.before ++ (take w.skip (get_or fine.from 0 []) ++ good) ∷ on.0)) ∙ on.1,
        );
  }

  no_byte : (byte : ℕ) → w.mistake ≡ BadByte byte → ⊥
  no_byte byte is =
      let P : Mistake → Type 0 = λ m. Says (λ ws. is_ok (read_words inside ws)) fine.before (drop w.skip (get_or fine.from 0 [])) m in
      subst P is fine.says

-- what is told of the words of a line
module _ (inside : Bool) (text : List ℕ) (w : Wrong) (column width : ℕ) (told : read_words inside (words_of text) ≡ Err w)
    (stands : StandsAt text (length (words_of text) - w.left) w.skip column width) where
  fine_here : Fine (λ ws. is_ok (read_words inside ws)) (words_of text) w
  fine_here = words_fine inside (words_of text) w told

  abbrev There : Mistake → Type 0
  There mistake = (before : ℕ) × (skip : ℕ) × StandsAt text before skip column width × GoesWrong inside (words_of text) before skip mistake

  there : There w.mistake
  there = (length (words_of text) - w.left, w.skip, stands, goes_wrong inside (words_of text) w fine_here)

  by_mistake : (mistake : Mistake) → w.mistake ≡ mistake → There mistake → IsDiagnosis inside text column width mistake
  by_mistake (BadByte byte) is h = absurd (no_byte inside (words_of text) w fine_here byte is)
  by_mistake (UnknownWord place) is h = h
  by_mistake (WordElsewhere place) is h = h
  by_mistake TooMany is h = h
  by_mistake (Missing value) is h = h
  by_mistake (MissingKey key) is h = h
  by_mistake (UnknownKey verb) is h = h
  by_mistake (TwiceKey key) is h = h
  by_mistake (NotANumber least most) is h = h
  by_mistake (LeadingZero least most) is h = h
  by_mistake (OutOfRange least most) is h = h
  by_mistake NotALimit is h = h
  by_mistake NotAUuid is h = h
  by_mistake (NotALayout key) is h = h

  pub diagnosis : IsDiagnosis inside text column width w.mistake
  diagnosis = by_mistake w.mistake refl there

-- ---- a line's meaning

abbrev is_plain : ℕ → Bool
is_plain b = leb 32 b && leb b 126

abbrev is_bad : ℕ → Bool
is_bad b = not (leb 32 b && leb b 126)

plain_before : (xs : List ℕ) → list_all is_plain (take (position_or_len is_bad xs) xs) ≡ true
plain_before [] = refl
plain_before (x ∷ xs) = by_byte (is_plain x) refl (plain_before xs)
  where
    by_byte : (b : Bool) → is_plain x ≡ b → list_all is_plain (take (position_or_len is_bad xs) xs) ≡ true
        → list_all is_plain (take (cond (not (not b)) (1 + position_or_len is_bad xs) 0) (x ∷ xs)) ≡ true
    by_byte true e later =
        let more : 1 + position_or_len is_bad xs ≡ suc (position_or_len is_bad xs) = omega arith in
        ap (λ k. list_all is_plain (take k (x ∷ xs))) more ∙ ap₂ (λ p q. p && q) e later
    by_byte false e later = refl

pub all_plain : (text : List ℕ) → position is_bad text ≡ None → is_printable text ≡ true
all_plain text none =
    ap (list_all is_plain) (sym (take_all (position_or_len is_bad text) text (position_none is_bad text none))) ∙ plain_before text

one_bad : (xs : List ℕ) (i : ℕ) → i < length xs → is_plain (get_or xs i 0) ≡ false → list_all is_plain xs ≡ false
one_bad [] i within bad = absurd (omega (arith, within))
one_bad (x ∷ xs) zero within bad = ap (λ b. b && list_all is_plain xs) bad
one_bad (x ∷ xs) (suc i) within bad = ap (λ b. is_plain x && b) (one_bad xs i (omega (arith, within)) bad) ∙ and_false (is_plain x)
  where
    and_false : (a : Bool) → (a && false) ≡ false
    and_false true = refl
    and_false false = refl

not_not : (b : Bool) → not b ≡ true → b ≡ false
not_not true e = absurd (cc)
not_not false e = refl

module _ (text : List ℕ) (column : ℕ) (found : position is_bad text ≡ Some column) where
  here : (column ≡ position_or_len is_bad text) × (column < length text)
  here = position_some is_bad text column found

  byte_bad : is_plain (get_or text column 0) ≡ false
  byte_bad =
      let within : position_or_len is_bad text < length text = omega (arith, here.0, here.1) in
      ap (λ k. is_plain (get_or text k 0)) (here.0) ∙ not_not (is_plain (get_or text (position_or_len is_bad text) 0)) (passes_at_first is_bad text 0 within)

  pub bad_byte : IsBadByte text column 1 (get_or text column 0)
  bad_byte = record {
    within = here.1;
    one = refl;
    byte_is = refl;
    bad = byte_bad;
    others = ap (λ k. list_all is_plain (take k text)) (here.0) ∙ plain_before text;
  }

  pub means_bad : (inside : Bool) → meaning_of inside text ≡ Bad
  means_bad inside =
      ap (λ p. cond (not p) Bad (cond (is_passed_over text) PassedOver (cond inside (inside_of (words_of text)) (outside_of (words_of text))))) (one_bad text column (here.1) byte_bad)

pub means_passed : (inside : Bool) (text : List ℕ) → is_printable text ≡ true → is_passed_over text ≡ true → meaning_of inside text ≡ PassedOver
means_passed inside text plain passed =
    ap₂ (λ p q. cond (not p) Bad (cond q PassedOver (cond inside (inside_of (words_of text)) (outside_of (words_of text))))) plain passed

pub means_words : (inside : Bool) (text : List ℕ) → is_printable text ≡ true → is_passed_over text ≡ false
    → of_result (read_words inside (words_of text)) ≡ meaning_of inside text
means_words inside text plain passed =
    words_mean inside (words_of text)
    ∙ sym (ap₂ (λ p q. cond (not p) Bad (cond q PassedOver (cond inside (inside_of (words_of text)) (outside_of (words_of text))))) plain passed)

pub never_bad : (r : Result Meaning Wrong) (meaning : Meaning) → is_good r ≡ true → r ≡ Ok meaning → meaning ≢ Bad
never_bad r meaning good is bad = true≢false (sym good ∙ ap is_good (is ∙ ap Ok bad))

pub not_passed : PassedOver ≢ Bad
not_passed e = true≢false (ap is_line e)
