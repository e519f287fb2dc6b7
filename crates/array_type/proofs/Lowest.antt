-- The lowest number that passes a test.
use Rattle.std.proofs.Common.{◌≡◌, ◌⊎◌, inl, inr, ℕ, zero, suc, ◌+◌, ◌<◌, Bool, true, false, cond, Option, Some, None, refl, sym, ◌∙◌, ap, ap₂, subst, arith, eq-or-lt_of_le, le_of_suc-le-suc}
use Rattle.std.specs.Option.{option_or}
use Rattle.array_state.specs.raid_types_Search.{least_below, count_below}
use Rattle.array_state.proofs.raid_types_Least.{least_below-none}

-- it is the one that is reached, where each before it fails
pub lowest-reached : (n : ℕ) (test : ℕ → Bool) (k : ℕ) → k < n → ((j : ℕ) → j < k → test j ≡ false) → test k ≡ true → least_below n test ≡ Some k
unfolding least_below
lowest-reached zero test k within before passes = absurd (omega (arith, within))
lowest-reached (suc n) test k within before passes =
    at_place (eq-or-lt_of_le (le_of_suc-le-suc within)) (λ lt. lowest-reached n test k lt before passes)
  where
    at_place : (k ≡ n) ⊎ (k < n) → (k < n → least_below n test ≡ Some k) → option_or (least_below n test) (cond (test n) (Some n) None) ≡ Some k
    at_place (inr lt) found = ap (λ o. option_or o (cond (test n) (Some n) None)) (found lt)
    at_place (inl same) found =
        ap₂ (λ o b. option_or o (cond b (Some n) None)) (ap (λ m. least_below m test) (sym same) ∙ least_below-none k test before) (ap test (sym same) ∙ passes)
        ∙ ap (λ m. Some m) (sym same)

-- it is below, and passes
pub lowest-found : (n : ℕ) (test : ℕ → Bool) (k : ℕ) → least_below n test ≡ Some k → (k < n) × (test k ≡ true)
unfolding least_below
lowest-found zero test k is = absurd (cc)
lowest-found (suc n) test k is = of (least_below n test) (test n) (lowest-found n test k) refl is
  where
    of : (before : Option ℕ) (here : Bool) → (before ≡ Some k → (k < n) × (test k ≡ true)) → test n ≡ here → option_or before (cond here (Some n) None) ≡ Some k → (k < suc n) × (test k ≡ true)
    of (Some i) here rest passes e = let found = rest e in (omega (arith, found.0), found.1)
    of None true rest passes e = let same : n ≡ k = cc in (omega (arith, same), subst (λ (i : ℕ). test i ≡ true) same passes)
    of None false rest passes e = absurd (cc)

-- where none passes, each fails
pub lowest-fails : (n : ℕ) (test : ℕ → Bool) → least_below n test ≡ None → (k : ℕ) → k < n → test k ≡ false
unfolding least_below
lowest-fails zero test none k lt = absurd (omega (arith, lt))
lowest-fails (suc n) test none k lt = by (least_below n test) (test n) refl none (λ found. lowest-fails n test found k) (eq-or-lt_of_le (le_of_suc-le-suc lt))
  where
    by : (o : Option ℕ) (b : Bool) → test n ≡ b → option_or o (cond b (Some n) None) ≡ None → (o ≡ None → k < n → test k ≡ false) → (k ≡ n) ⊎ (k < n) → test k ≡ false
    by (Some j) b here none lesser at_place = absurd cc
    by None true here none lesser at_place = absurd cc
    by None false here none lesser (inr below) = lesser refl below
    by None false here none lesser (inl same) = ap test same ∙ here

-- and none is counted
pub none-counted : (n : ℕ) (test : ℕ → Bool) → least_below n test ≡ None → count_below n test ≡ 0
unfolding least_below count_below
none-counted zero test none = refl
none-counted (suc n) test none = by (least_below n test) (test n) none (none-counted n test)
  where
    by : (o : Option ℕ) (b : Bool) → option_or o (cond b (Some n) None) ≡ None → (o ≡ None → count_below n test ≡ 0) → count_below n test + cond b 1 0 ≡ 0
    by (Some j) b none lesser = absurd cc
    by None true none lesser = absurd cc
    by None false none lesser = let before = lesser refl in omega (arith, before)
