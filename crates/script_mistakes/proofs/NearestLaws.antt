-- The nearest name so far.
use Rattle.std.proofs.Common.{◌≡◌, ℕ, ◌+◌, ◌<◌, ◌≤◌, Bool, true, false, ◌&&◌, ◌||◌, not, ltb, eqb, ap₂, true≢false, List, [], get_or, Option, Some, None, refl, sym, ap, subst, ◌∙◌, arith, ◌⊎◌, inl, inr}
use Rattle.std.proofs.lemmas.Bool.{cases_lt}
use Rattle.std.proofs.lemmas.Bool.Decides.{nat_tests}
use Rattle.std.specs.Option.{is_some}
use Rattle.script_mistakes.specs.Nearest.{letters_apart}

-- of the first few names
abbrev pub Found : List ℕ → List (List ℕ) → ℕ → ℕ → ℕ → Option ℕ → Type 0
Found word names few most least None = (least ≡ most) × ((k : ℕ) → k < few → most < letters_apart word (get_or names k []))
Found word names few most least (Some i) =
    (i < few) × (least ≡ letters_apart word (get_or names i [])) × (least ≤ most) × ((k : ℕ) → k < few → least ≤ letters_apart word (get_or names k []))

cases_last : (k few : ℕ) → k < few + 1 → (k < few) ⊎ (k ≡ few)
cases_last k few h = by (cases_lt k few)
  where
    by : (k < few) ⊎ (few ≤ k) → (k < few) ⊎ (k ≡ few)
    by (inl below) = inl below
    by (inr past) = inr (omega (arith, h, past))

module _ (word : List ℕ) (names : List (List ℕ)) (few most least letters : ℕ) (here : letters ≡ letters_apart word (get_or names few [])) where
  -- a nearer one, or the first that is near
  pub found-nearer : (found : Option ℕ) → Found word names few most least found → letters ≤ least → Found word names (few + 1) most letters (Some few)
  found-nearer None so_far near = (
    omega arith,
    here,
    omega (arith, near, so_far.0),
    λ k h. elim (cases_last k few h) [ inl below ↦ (let far = so_far.1 k below in omega (arith, far, near, so_far.0)) | inr same ↦ (let e : letters ≡ letters_apart word (get_or names k []) = here ∙ ap (λ j. letters_apart word (get_or names j [])) (sym same) in omega (arith, e)) ],
  )
  found-nearer (Some i) so_far near = (
    omega arith,
    here,
    omega (arith, near, so_far.2),
    λ k h. elim (cases_last k few h) [ inl below ↦ (let far = so_far.3 k below in omega (arith, far, near)) | inr same ↦ (let e : letters ≡ letters_apart word (get_or names k []) = here ∙ ap (λ j. letters_apart word (get_or names j [])) (sym same) in omega (arith, e)) ],
  )

  -- one that isn't nearer
  pub found-kept : (found : Option ℕ) → Found word names few most least found → least ≤ letters → (found ≡ None → least < letters) → Found word names (few + 1) most least found
  found-kept None so_far far past = (
    so_far.0,
    λ k h. elim (cases_last k few h) [ inl below ↦ so_far.1 k below | inr same ↦ (let e : letters ≡ letters_apart word (get_or names k []) = here ∙ ap (λ j. letters_apart word (get_or names j [])) (sym same) in let p = past refl in omega (arith, e, p, so_far.0)) ],
  )
  found-kept (Some i) so_far far past = (
    omega (arith, so_far.0),
    so_far.1,
    so_far.2,
    λ k h. elim (cases_last k few h) [ inl below ↦ so_far.3 k below | inr same ↦ (let e : letters ≡ letters_apart word (get_or names k []) = here ∙ ap (λ j. letters_apart word (get_or names j [])) (sym same) in omega (arith, e, far)) ],
  )

-- what the test of a name tells
pub nearer : (letters least : ℕ) (found : Option ℕ) → (ltb letters least || (eqb letters least && not (is_some found))) ≡ true → letters ≤ least
nearer letters least found e = by_order (cases_lt least letters)
  where
    by_order : (least < letters) ⊎ (letters ≤ least) → letters ≤ least
    by_order (inr there) = there
    by_order (inl past) =
        let a : ltb letters least ≡ false = grind (arith, nat_tests) in
        let b : eqb letters least ≡ false = grind (arith, nat_tests) in
        absurd (true≢false (sym e ∙ ap₂ (λ p q. p || (q && not (is_some found))) a b))

pub farther : (letters least : ℕ) (found : Option ℕ) → (ltb letters least || (eqb letters least && not (is_some found))) ≡ false → least ≤ letters
farther letters least found e = by_order (cases_lt letters least)
  where
    by_order : (letters < least) ⊎ (least ≤ letters) → least ≤ letters
    by_order (inr there) = there
    by_order (inl near) =
        let a : ltb letters least ≡ true = grind (arith, nat_tests) in
        absurd (true≢false (sym (ap (λ p. p || (eqb letters least && not (is_some found))) a) ∙ e))

pub past_first : (letters least : ℕ) (found : Option ℕ) → (ltb letters least || (eqb letters least && not (is_some found))) ≡ false → found ≡ None → least < letters
past_first letters least found e none = by_order (cases_lt least letters)
  where
    by_order : (least < letters) ⊎ (letters ≤ least) → least < letters
    by_order (inl past) = past
    by_order (inr there) =
        let far = farther letters least found e in
        let b : eqb letters least ≡ true = grind (arith, nat_tests) in
        let last : (ltb letters least || (eqb letters least && not (is_some found))) ≡ (ltb letters least || true) = ap₂ (λ q o. ltb letters least || (q && not (is_some o))) b none in
        absurd (true≢false (sym (last ∙ or_true (ltb letters least)) ∙ e))
      where
        or_true : (b : Bool) → (b || true) ≡ true
        or_true true = refl
        or_true false = refl
