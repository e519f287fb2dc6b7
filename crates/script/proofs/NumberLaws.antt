-- Numbers as the reader judges them, beside the numbers that the grammar names.
use Rattle.std.proofs.Common.{◌≡◌, ℕ, ◌+◌, ◌-◌, ◌^◌, ◌<◌, ◌≤◌, Bool, true, false, ◌&&◌, ◌||◌, not, cond, ltb, leb, eqb, List, [], ◌∷◌, length, get_or, Option, Some, None, Result, Ok, Err, ◌⊎◌, inl, inr, refl, sym, ap, ap₂, ◌∙◌, arith, true≢false}
use Rattle.std.proofs.lemmas.Bool.Decides.{nat_tests}
use Rattle.std.proofs.lemmas.Bool.{cases_lt}
use Rattle.std.specs.Option.{option_and_then, option_map}
use Rattle.std.specs.Result.{result_ok}
use Rattle.std.specs.Char.{is_ascii_digit}
use Rattle.std.specs.List.{list_all}
use Rattle.std.specs.Str.Parse.{digits_value}
use Rattle.script_words.specs.Numbers.{is_numeral, number_below}
use Rattle.script.specs.Grammar.{span_of, is_span}
use Rattle.script.specs.Reading.{goes_on, wrong_at, wrongly, are_digits, within, judge_number, most_after}
use Rattle.script.specs.declared.mistakes.Mistake.{Mistake}
use Rattle.script.specs.declared.mistakes.Mistake.TheVariants.{NotANumber, LeadingZero, OutOfRange}
use Rattle.script.specs.declared.mistakes.Wrong.{Wrong}

-- a word writes no number, or it writes this one
pub record NoNumber (word : List ℕ) : Type 0 where
  pub judged : (least most : ℕ) → result_ok (judge_number least most word) ≡ None
  pub below : (limit : ℕ) → number_below limit word ≡ None

pub record Writes (word : List ℕ) (n : ℕ) : Type 0 where
  pub judged : (least most : ℕ) → judge_number least most word ≡ within least most n
  pub below : (limit : ℕ) → number_below limit word ≡ cond (ltb n limit) (Some n) None

pub one_or_more : (n : ℕ) → ltb 0 n ≡ true → eqb n 1 ≡ not (ltb 1 n)
one_or_more n some = grind (arith, nat_tests)

and_left : (a b : Bool) → (a && b) ≡ true → a ≡ true
and_left true b h = refl
and_left false b h = h

pub leading : (z long one : Bool) → one ≡ not long → (not z || one) ≡ not (z && long)
leading true long one e = e
leading false long one e = refl

module _ (word : List ℕ) where
  by_zero : are_digits word ≡ true → (t : Bool) → (eqb (get_or word 0 0) 48 && ltb 1 (length word)) ≡ t → NoNumber word ⊎ Writes word (digits_value 10 word)
  by_zero digits true e =
      let c = leading (eqb (get_or word 0 0) 48) (ltb 1 (length word)) (eqb (length word) 1) (one_or_more (length word) (and_left (ltb 0 (length word)) (list_all is_ascii_digit word) digits)) ∙ ap not e in
      inl (record {
        judged = λ least most. ap₂ (λ d z. result_ok (cond (not d) (Err (NotANumber least most)) (cond z (Err (LeadingZero least most)) (within least most (digits_value 10 word))))) digits e;
        below = λ limit. ap₂ (λ d z. cond ((d && z) && ltb (digits_value 10 word) limit) (Some (digits_value 10 word)) None) digits c;
      })
  by_zero digits false e =
      let c = leading (eqb (get_or word 0 0) 48) (ltb 1 (length word)) (eqb (length word) 1) (one_or_more (length word) (and_left (ltb 0 (length word)) (list_all is_ascii_digit word) digits)) ∙ ap not e in
      inr (record {
        judged = λ least most. ap₂ (λ d z. cond (not d) (Err (NotANumber least most)) (cond z (Err (LeadingZero least most)) (within least most (digits_value 10 word)))) digits e;
        below = λ limit. ap₂ (λ d z. cond ((d && z) && ltb (digits_value 10 word) limit) (Some (digits_value 10 word)) None) digits c;
      })

  by_digits : (d : Bool) → are_digits word ≡ d → NoNumber word ⊎ Writes word (digits_value 10 word)
  by_digits true e = by_zero e (eqb (get_or word 0 0) 48 && ltb 1 (length word)) refl
  by_digits false e =
      inl (record {
        judged = λ least most. ap (λ d. result_ok (cond (not d) (Err (NotANumber least most)) (cond (eqb (get_or word 0 0) 48 && ltb 1 (length word)) (Err (LeadingZero least most)) (within least most (digits_value 10 word))))) e;
        below = λ limit. ap (λ d. cond ((d && (not (eqb (get_or word 0 0) 48) || eqb (length word) 1)) && ltb (digits_value 10 word) limit) (Some (digits_value 10 word)) None) e;
      })

  pub number_cases : NoNumber word ⊎ Writes word (digits_value 10 word)
  number_cases = by_digits (are_digits word) refl

below_most : (n most limit : ℕ) → limit ≡ most + 1 → (leb 0 n && leb n most) ≡ ltb n limit
below_most n most limit e = grind (arith, nat_tests)

-- the numbers up to one are those below the next
pub number_means : (most limit : ℕ) → limit ≡ most + 1 → (word : List ℕ) → result_ok (judge_number 0 most word) ≡ number_below limit word
number_means most limit e word = by_cases (number_cases word)
  where
    cut : (n : ℕ) (b : Bool) → result_ok (cond b (Ok n) (Err (OutOfRange 0 most))) ≡ cond b (Some n) None
    cut n true = refl
    cut n false = refl

    by_cases : NoNumber word ⊎ Writes word (digits_value 10 word) → result_ok (judge_number 0 most word) ≡ number_below limit word
    by_cases (inl none) = none.judged 0 most ∙ sym (none.below limit)
    by_cases (inr writes) =
        ap result_ok (writes.judged 0 most) ∙ cut (digits_value 10 word) (leb 0 (digits_value 10 word) && leb (digits_value 10 word) most)
        ∙ ap (λ b. cond b (Some (digits_value 10 word)) None) (below_most (digits_value 10 word) most limit e) ∙ sym (writes.below limit)

pub number_means_from : (least most limit : ℕ) → limit ≡ most + 1 → (word : List ℕ)
    → result_ok (judge_number least most word) ≡ option_and_then (λ n. cond (leb least n) (Some n) None) (number_below limit word)
number_means_from least most limit e word = by_cases (number_cases word)
  where
    below : (n : ℕ) → leb n most ≡ ltb n limit
    below n = grind (arith, nat_tests)

    cut : (n : ℕ) (a b : Bool) → result_ok (cond (a && b) (Ok n) (Err (OutOfRange least most))) ≡ option_and_then (λ k. cond a (Some k) None) (cond b (Some n) None)
    cut n true true = refl
    cut n true false = refl
    cut n false true = refl
    cut n false false = refl

    kept : (n : ℕ) (b : Bool) → option_and_then (λ k. cond (leb least n) (Some k) None) (cond b (Some n) None) ≡ option_and_then (λ k. cond (leb least k) (Some k) None) (cond b (Some n) None)
    kept n true = refl
    kept n false = refl

    by_cases : NoNumber word ⊎ Writes word (digits_value 10 word)
        → result_ok (judge_number least most word) ≡ option_and_then (λ n. cond (leb least n) (Some n) None) (number_below limit word)
    by_cases (inl none) = none.judged least most ∙ ap (option_and_then (λ n. cond (leb least n) (Some n) None)) (sym (none.below limit))
    by_cases (inr writes) =
        let v = digits_value 10 word in
        ap result_ok (writes.judged least most) ∙ cut v (leb least v) (leb v most)
        ∙ kept v (leb v most)
        ∙ ap (λ b. option_and_then (λ k. cond (leb least k) (Some k) None) (cond b (Some v) None)) (below v)
        ∙ ap (option_and_then (λ n. cond (leb least n) (Some n) None)) (sym (writes.below limit))

-- ---- spans

few_enough : (a b : ℕ) → a < 2 ^ 63 - 1 → (leb 1 b && leb b (most_after a)) ≡ is_span (a, b)
few_enough a b room = by_room (cases_lt (2 ^ 63 - 1 - a) 128)
  where
    by_room : (2 ^ 63 - 1 - a < 128) ⊎ (128 ≤ 2 ^ 63 - 1 - a) → (leb 1 b && leb b (most_after a)) ≡ is_span (a, b)
    by_room (inl few) =
        let t : ltb (2 ^ 63 - 1 - a) 128 ≡ true = grind (arith, nat_tests) in
        ap (λ c. leb 1 b && leb b (cond c (2 ^ 63 - 1 - a) 128)) t ∙ grind (arith, nat_tests)
    by_room (inr many) =
        let t : ltb (2 ^ 63 - 1 - a) 128 ≡ false = grind (arith, nat_tests) in
        ap (λ c. leb 1 b && leb b (cond c (2 ^ 63 - 1 - a) 128)) t ∙ grind (arith, nat_tests)

none_enough : (a b : ℕ) → 2 ^ 63 - 1 ≤ a → is_span (a, b) ≡ false
none_enough a b past = grind (arith, nat_tests)

small_count : (a b : ℕ) → is_span (a, b) ≡ true → ltb b (2 ^ 32) ≡ true
small_count a b span = grind (arith, nat_tests)

module _ {A : Type 0} (make : ℕ → ℕ → Option A) (x count : List ℕ) where
  by_count : (a : ℕ) → a < 2 ^ 63 - 1 → NoNumber count ⊎ Writes count (digits_value 10 count)
      → option_and_then (make a) (result_ok (judge_number 1 (most_after a) count))
      ≡ option_and_then (λ (span : ℕ × ℕ). make span.0 span.1) (option_and_then (λ n. cond (is_span (a, n)) (Some (a, n)) None) (number_below (2 ^ 32) count))
  by_count a room (inl none) =
      ap (option_and_then (make a)) (none.judged 1 (most_after a))
      ∙ ap (λ o. option_and_then (λ (span : ℕ × ℕ). make span.0 span.1) (option_and_then (λ n. cond (is_span (a, n)) (Some (a, n)) None) o)) (sym (none.below (2 ^ 32)))
  by_count a room (inr writes) =
      let b = digits_value 10 count in
      ap (λ r. option_and_then (make a) (result_ok r)) (writes.judged 1 (most_after a))
      ∙ ap (λ t. option_and_then (make a) (result_ok (cond t (Ok b) (Err (OutOfRange 1 (most_after a)))))) (few_enough a b room)
      ∙ counted b (is_span (a, b)) (ltb b (2 ^ 32)) refl (small_count a b)
      ∙ ap (λ o. option_and_then (λ (span : ℕ × ℕ). make span.0 span.1) (option_and_then (λ n. cond (is_span (a, n)) (Some (a, n)) None) o)) (sym (writes.below (2 ^ 32)))
    where
      counted : (n : ℕ) (t l : Bool) → is_span (a, n) ≡ t → (is_span (a, n) ≡ true → l ≡ true)
          → option_and_then (make a) (result_ok (cond t (Ok n) (Err (OutOfRange 1 (most_after a)))))
          ≡ option_and_then (λ (span : ℕ × ℕ). make span.0 span.1) (option_and_then (λ k. cond (is_span (a, k)) (Some (a, k)) None) (cond l (Some n) None))
      counted n true true is few = sym (ap (λ b. option_and_then (λ (span : ℕ × ℕ). make span.0 span.1) (cond b (Some (a, n)) None)) is)
      counted n true false is few = absurd (true≢false (sym (few is)))
      counted n false true is few = sym (ap (λ b. option_and_then (λ (span : ℕ × ℕ). make span.0 span.1) (cond b (Some (a, n)) None)) is)
      counted n false false is few = refl

  abbrev left : Option ℕ → Option A
  left o = option_and_then (λ a. option_and_then (make a) (result_ok (judge_number 1 (most_after a) count))) o

  abbrev right : Option ℕ → Option A
  right o =
      option_and_then (λ (span : ℕ × ℕ). make span.0 span.1)
      (option_and_then (λ start. option_and_then (λ n. cond (is_span (start, n)) (Some (start, n)) None) (number_below (2 ^ 32) count)) o)

  nothing : (a : ℕ) (o : Option ℕ) → 2 ^ 63 - 1 ≤ a
      → option_and_then (λ (span : ℕ × ℕ). make span.0 span.1) (option_and_then (λ n. cond (is_span (a, n)) (Some (a, n)) None) o) ≡ None
  nothing a None past = refl
  nothing a (Some n) past = ap (λ b. option_and_then (λ (span : ℕ × ℕ). make span.0 span.1) (cond b (Some (a, n)) None)) (none_enough a n past)

  by_size : (a : ℕ) → (a < 2 ^ 63 - 1) ⊎ (2 ^ 63 - 1 ≤ a) → judge_number 0 (2 ^ 63 - 2) x ≡ within 0 (2 ^ 63 - 2) a
      → number_below (2 ^ 64) x ≡ cond (ltb a (2 ^ 64)) (Some a) None
      → left (result_ok (judge_number 0 (2 ^ 63 - 2) x)) ≡ right (number_below (2 ^ 64) x)
  by_size a (inl room) judged below =
      let t : (leb 0 a && leb a (2 ^ 63 - 2)) ≡ true = grind (arith, nat_tests) in
      let u : ltb a (2 ^ 64) ≡ true = grind (arith, nat_tests) in
      let here : result_ok (judge_number 0 (2 ^ 63 - 2) x) ≡ Some a = ap result_ok judged ∙ ap (λ b. result_ok (cond b (Ok a) (Err (OutOfRange 0 (2 ^ 63 - 2))))) t in
      let there : number_below (2 ^ 64) x ≡ Some a = below ∙ ap (λ b. cond b (Some a) None) u in
      ap left here ∙ by_count a room (number_cases count) ∙ sym (ap right there)
  by_size a (inr past) judged below =
      let t : (leb 0 a && leb a (2 ^ 63 - 2)) ≡ false = grind (arith, nat_tests) in
      let here : result_ok (judge_number 0 (2 ^ 63 - 2) x) ≡ None = ap result_ok judged ∙ ap (λ b. result_ok (cond b (Ok a) (Err (OutOfRange 0 (2 ^ 63 - 2))))) t in
      ap left here ∙ sym (ap right below ∙ cut (ltb a (2 ^ 64)))
    where
      cut : (b : Bool) → right (cond b (Some a) None) ≡ None
      cut true = nothing a (number_below (2 ^ 32) count) past
      cut false = refl

  by_start : NoNumber x ⊎ Writes x (digits_value 10 x) → left (result_ok (judge_number 0 (2 ^ 63 - 2) x)) ≡ right (number_below (2 ^ 64) x)
  by_start (inl none) = ap left (none.judged 0 (2 ^ 63 - 2)) ∙ sym (ap right (none.below (2 ^ 64)))
  by_start (inr writes) = by_size (digits_value 10 x) (cases_lt (digits_value 10 x) (2 ^ 63 - 1)) (writes.judged 0 (2 ^ 63 - 2)) (writes.below (2 ^ 64))

  -- the sectors that two words name, and what is made of them
  pub span_means
      : option_and_then (λ a. option_and_then (make a) (result_ok (judge_number 1 (most_after a) count))) (result_ok (judge_number 0 (2 ^ 63 - 2) x))
      ≡ option_and_then (λ (span : ℕ × ℕ). make span.0 span.1) (span_of x count)
  span_means = by_start (number_cases x)
