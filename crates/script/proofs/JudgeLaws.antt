-- What a value's judge says of a word that it refuses.
use Rattle.std.proofs.Common.{◌≡◌, ℕ, ◌+◌, ◌-◌, ◌^◌, ◌<◌, ◌≤◌, Bool, true, false, ◌&&◌, ◌||◌, not, cond, ltb, leb, eqb, List, [], ◌∷◌, length, get_or, Option, Some, None, Result, Ok, Err, ◌⊎◌, inl, inr, refl, sym, ap, ap₂, subst, ◌∙◌, arith, true≢false, codes}
use Rattle.std.proofs.lemmas.Bool.Decides.{nat_tests}
use Rattle.std.specs.Str.{bytes_eq}
use Rattle.std.specs.Option.{is_some, option_map}
use Rattle.std.specs.Result.{result_ok, is_ok}
use Rattle.std.specs.Char.{is_ascii_digit}
use Rattle.std.specs.List.{list_all}
use Rattle.std.specs.Str.Parse.{digits_value}
use Rattle.uuid.specs.Text.{parsed}
use Rattle.history.specs.raid_types_Search.{least_below}
use Rattle.script_words.specs.raid_types_the_WishedLayout_TheVariants.{Named, Preserve, Normalise}
use Rattle.script_words.specs.Numbers.{is_numeral, number_below}
use Rattle.script_words.specs.Layouts.{layout_named}
use Rattle.script_words.specs.Wishes.{wished_as}
use Rattle.script.specs.Grammar.{limit_given}
use Rattle.script.specs.Mistakes.{Says, would_do, is_number_from, is_layout_of}
use Rattle.script.specs.Reading.{goes_on, within, are_digits, judge_number, judge_limit, judge_uuid, judge_layout, judge_wish, or_mistake, small}
use Rattle.script.specs.declared.mistakes.Mistake.{Mistake}
use Rattle.script.specs.declared.mistakes.Mistake.TheVariants.{NotANumber, LeadingZero, OutOfRange, NotALimit, NotAUuid, NotALayout}
use Rattle.script.specs.declared.tables.Key.TheVariants.{Layout, LayoutWish}
use Rattle.script.proofs.NumberLaws.{NoNumber, Writes, number_cases, leading, one_or_more, number_means}
use Rattle.script.proofs.ReadingLaws.{limit_means, uuid_means}
use Rattle.script.proofs.KeyLaws.{layout_means, wish_means}
use Rattle.script.proofs.WrongLaws.{IsJudge, err_injective, and_left, and_right, both}

-- what is true of each refusal, and what would do in its place
pub record Refuses (word : List ℕ) (mistake : Mistake) (does : List ℕ → Bool) : Type 0 where
  pub truth : (lang : List (List ℕ) → Bool) (before : List (List ℕ)) → Says lang before word mistake
  pub wants : (good : List ℕ) → would_do mistake good ≡ does good

module _ (least most : ℕ) (word : List ℕ) where
  numeral_is : are_digits word ≡ true → is_numeral word ≡ not (eqb (get_or word 0 0) 48 && ltb 1 (length word))
  numeral_is digits =
      ap (λ d. d && (not (eqb (get_or word 0 0) 48) || eqb (length word) 1)) digits
      ∙ leading (eqb (get_or word 0 0) 48) (ltb 1 (length word)) (eqb (length word) 1) (one_or_more (length word) (and_left (ltb 0 (length word)) (list_all is_ascii_digit word) digits))

  by_range : (mistake : Mistake) → is_numeral word ≡ true → (b : Bool) → (leb least (digits_value 10 word) && leb (digits_value 10 word) most) ≡ b
      → cond b (Ok (digits_value 10 word)) (Err (OutOfRange least most)) ≡ Err mistake → Refuses word mistake (is_number_from least most)
  by_range mistake numeral true inside e = absurd (cc)
  by_range mistake numeral false outside e = subst (λ m. Refuses word m (is_number_from least most)) (err_injective e) (record {
    truth = λ lang before. both (is_numeral word) (not (is_number_from least most word)) numeral (ap not (ap₂ (λ p q. p && q) numeral outside));
    wants = λ good. refl;
  })

  by_zero : (mistake : Mistake) → are_digits word ≡ true → (z : Bool) → (eqb (get_or word 0 0) 48 && ltb 1 (length word)) ≡ z
      → cond z (Err (LeadingZero least most)) (within least most (digits_value 10 word)) ≡ Err mistake → Refuses word mistake (is_number_from least most)
  by_zero mistake digits true zero e = subst (λ m. Refuses word m (is_number_from least most)) (err_injective e) (record {
    truth = λ lang before. both (are_digits word) (not (is_numeral word)) digits (ap not (numeral_is digits ∙ ap not zero));
    wants = λ good. refl;
  })
  by_zero mistake digits false zero e =
      by_range mistake (numeral_is digits ∙ ap not zero) (leb least (digits_value 10 word) && leb (digits_value 10 word) most) refl e

  by_digits : (mistake : Mistake) → (d : Bool) → are_digits word ≡ d
      → cond (not d) (Err (NotANumber least most)) (cond (eqb (get_or word 0 0) 48 && ltb 1 (length word)) (Err (LeadingZero least most)) (within least most (digits_value 10 word))) ≡ Err mistake
      → Refuses word mistake (is_number_from least most)
  by_digits mistake true digits e = by_zero mistake digits (eqb (get_or word 0 0) 48 && ltb 1 (length word)) refl e
  by_digits mistake false other e = subst (λ m. Refuses word m (is_number_from least most)) (err_injective e) (record {
    truth = λ lang before. other;
    wants = λ good. refl;
  })

  pub number_refuses : (mistake : Mistake) → judge_number least most word ≡ Err mistake → Refuses word mistake (is_number_from least most)
  number_refuses mistake e = by_digits mistake (are_digits word) refl e

  -- a number within the bounds is taken
  pub number_taken : is_number_from least most word ≡ true → is_ok (judge_number least most word) ≡ true
  number_taken does = by_cases (number_cases word)
    where
      numeral : is_numeral word ≡ true
      numeral = and_left (is_numeral word) (leb least (digits_value 10 word) && leb (digits_value 10 word) most) does

      inside : (leb least (digits_value 10 word) && leb (digits_value 10 word) most) ≡ true
      inside = and_right (is_numeral word) (leb least (digits_value 10 word) && leb (digits_value 10 word) most) does

      next : (n : ℕ) → ltb n (n + 1) ≡ true
      next n = grind (arith, nat_tests)

      by_cases : NoNumber word ⊎ Writes word (digits_value 10 word) → is_ok (judge_number least most word) ≡ true
      by_cases (inl none) =
          let v = digits_value 10 word in
          let there : number_below (v + 1) word ≡ Some v = ap₂ (λ p q. cond (p && q) (Some v) None) numeral (next v) in
          absurd (cc (there, none.below (v + 1)))
      by_cases (inr writes) =
          ap is_ok (writes.judged least most) ∙ ap (λ b. is_ok (cond b (Ok (digits_value 10 word)) (Err (OutOfRange least most)))) inside

pub number_judge : (least most : ℕ) (sample : List ℕ) → is_ok (judge_number least most sample) ≡ true → IsJudge (judge_number least most)
number_judge least most sample taken = record {
  truth = λ lang before word mistake e. (number_refuses least most word mistake e).truth lang before;
  wants = λ word mistake good e does. number_taken least most good (sym ((number_refuses least most word mistake e).wants good) ∙ does);
  sample = sample;
  taken = taken;
}

pub small_judge : IsJudge small
small_judge = number_judge 0 (2 ^ 32 - 1) (codes "0") refl

-- ---- values of other kinds

pub some_ok : {A E : Type 0} (r : Result A E) → is_ok r ≡ is_some (result_ok r)
some_ok (Ok x) = refl
some_ok (Err e) = refl

pub or_mistake_err : {A : Type 0} (mistake refused : Mistake) (o : Option A) → or_mistake mistake o ≡ Err refused → (o ≡ None) × (mistake ≡ refused)
or_mistake_err mistake refused None e = (refl, err_injective e)
or_mistake_err mistake refused (Some x) e = absurd (cc)

uuid_refuses : (word : List ℕ) (mistake : Mistake) → judge_uuid word ≡ Err mistake → Refuses word mistake (λ good. is_some (parsed good))
uuid_refuses word mistake e =
    let why = or_mistake_err NotAUuid mistake (parsed word) e in
    subst (λ m. Refuses word m (λ good. is_some (parsed good))) (why.1) (record { truth = λ lang before. why.0; wants = λ good. refl })

pub uuid_judge : IsJudge judge_uuid
uuid_judge = record {
  truth = λ lang before word mistake e. (uuid_refuses word mistake e).truth lang before;
  wants = λ word mistake good e does. some_ok (judge_uuid good) ∙ ap is_some (uuid_means good) ∙ sym ((uuid_refuses word mistake e).wants good) ∙ does;
  sample = codes "00000000000000000000000000000000";
  taken = refl;
}

layout_refuses : (word : List ℕ) (mistake : Mistake) → judge_layout word ≡ Err mistake → Refuses word mistake (is_layout_of Layout)
layout_refuses word mistake e =
    let why = or_mistake_err (NotALayout Layout) mistake (layout_named word) e in
    subst (λ m. Refuses word m (is_layout_of Layout)) (why.1) (record { truth = λ lang before. ap is_some (why.0); wants = λ good. refl })

pub layout_judge : IsJudge judge_layout
unfolding least_below
layout_judge = record {
  truth = λ lang before word mistake e. (layout_refuses word mistake e).truth lang before;
  wants = λ word mistake good e does. some_ok (judge_layout good) ∙ ap is_some (layout_means good) ∙ sym ((layout_refuses word mistake e).wants good) ∙ does;
  sample = codes "parity-last";
  taken = refl;
}

pub refused_none : {A : Type 0} (r : Result A Mistake) (mistake : Mistake) → r ≡ Err mistake → result_ok r ≡ None
refused_none r mistake e = ap result_ok e

which_wish : (mistake : Mistake) (p n : Bool) (o : Option ℕ)
    → cond p (Ok Preserve) (cond n (Ok Normalise) (goes_on (or_mistake (NotALayout LayoutWish) o) (λ k. Ok (Named k)))) ≡ Err mistake → NotALayout LayoutWish ≡ mistake
which_wish mistake true n o e = absurd (cc)
which_wish mistake false true o e = absurd (cc)
which_wish mistake false false None e = err_injective e
which_wish mistake false false (Some k) e = absurd (cc)

wish_refuses : (word : List ℕ) (mistake : Mistake) → judge_wish word ≡ Err mistake → Refuses word mistake (is_layout_of LayoutWish)
wish_refuses word mistake e =
    subst (λ m. Refuses word m (is_layout_of LayoutWish)) (which_wish mistake (bytes_eq word (codes "preserve")) (bytes_eq word (codes "normalise")) (layout_named word) e)
    (record { truth = λ lang before. ap is_some (sym (wish_means word) ∙ refused_none (judge_wish word) mistake e); wants = λ good. refl })

pub wish_judge : IsJudge judge_wish
wish_judge = record {
  truth = λ lang before word mistake e. (wish_refuses word mistake e).truth lang before;
  wants = λ word mistake good e does. some_ok (judge_wish good) ∙ ap is_some (wish_means good) ∙ sym ((wish_refuses word mistake e).wants good) ∙ does;
  sample = codes "preserve";
  taken = refl;
}

-- ---- limits

limit_refuses : (word : List ℕ) (mistake : Mistake) → judge_limit word ≡ Err mistake
    → ((lang : List (List ℕ) → Bool) (before : List (List ℕ)) → Says lang before word mistake) × ((good : List ℕ) → would_do mistake good ≡ true → is_ok (judge_limit good) ≡ true)
limit_refuses word mistake e = by_name (bytes_eq word (codes "max")) refl (are_digits word) refl e
  where
    number_too : (good : List ℕ) → is_number_from 0 (2 ^ 64 - 1) good ≡ true → is_ok (judge_limit good) ≡ true
    number_too good does =
        by_good (bytes_eq good (codes "max")) (judge_number 0 (2 ^ 64 - 1) good) (number_taken 0 (2 ^ 64 - 1) good does) (digits_of good does)
      where
        digits_of : (w : List ℕ) → is_number_from 0 (2 ^ 64 - 1) w ≡ true → are_digits w ≡ true
        digits_of w d =
            and_left (are_digits w) (not (eqb (get_or w 0 0) 48) || eqb (length w) 1)
            (and_left (is_numeral w) (leb 0 (digits_value 10 w) && leb (digits_value 10 w) (2 ^ 64 - 1)) d)

        by_good : (m : Bool) (r : Result ℕ Mistake) → is_ok r ≡ true → are_digits good ≡ true
            → is_ok (cond m (Ok None) (cond (not (are_digits good)) (Err NotALimit) (goes_on r (λ n. Ok (Some n))))) ≡ true
        by_good true r ok digits = refl
        by_good false (Ok n) ok digits = ap (λ d. is_ok (cond (not d) (Err NotALimit) (Ok (Some n)))) digits
        by_good false (Err x) ok digits = absurd (true≢false (sym ok))

    by_number : (r : Result ℕ Mistake) → judge_number 0 (2 ^ 64 - 1) word ≡ r → goes_on r (λ n. Ok (Some n)) ≡ Err mistake
        → ((lang : List (List ℕ) → Bool) (before : List (List ℕ)) → Says lang before word mistake) × ((good : List ℕ) → would_do mistake good ≡ true → is_ok (judge_limit good) ≡ true)
    by_number (Ok n) is told = absurd (cc)
    by_number (Err x) is told =
        let same = err_injective told in
        let refuses = number_refuses 0 (2 ^ 64 - 1) word mistake (is ∙ ap Err same) in
        (refuses.truth, λ good does. number_too good (sym (refuses.wants good) ∙ does))

    not_digits : bytes_eq word (codes "max") ≡ false → are_digits word ≡ false → limit_given word ≡ None
    not_digits m d = rw (m, d) refl

    by_name : (m : Bool) → bytes_eq word (codes "max") ≡ m → (d : Bool) → are_digits word ≡ d
        → cond m (Ok None) (cond (not d) (Err NotALimit) (goes_on (judge_number 0 (2 ^ 64 - 1) word) (λ n. Ok (Some n)))) ≡ Err mistake
        → ((lang : List (List ℕ) → Bool) (before : List (List ℕ)) → Says lang before word mistake) × ((good : List ℕ) → would_do mistake good ≡ true → is_ok (judge_limit good) ≡ true)
    by_name true em d ed told = absurd (cc)
    by_name false em true ed told = by_number (judge_number 0 (2 ^ 64 - 1) word) refl told
    by_name false em false ed told =
        let P : Mistake → Type 0 = λ m. ((lang : List (List ℕ) → Bool) (before : List (List ℕ)) → Says lang before word m) × ((good : List ℕ) → would_do m good ≡ true → is_ok (judge_limit good) ≡ true) in
        subst P (err_injective told) (λ lang before. not_digits em ed, λ good does. some_ok (judge_limit good) ∙ ap is_some (limit_means good) ∙ does)

pub limit_judge : IsJudge judge_limit
limit_judge = record {
  truth = λ lang before word mistake e. (limit_refuses word mistake e).0 lang before;
  wants = λ word mistake good e does. (limit_refuses word mistake e).1 good does;
  sample = codes "max";
  taken = refl;
}
