-- The least number that passes a test, as it is searched from 0 on.
use Rattle.std.proofs.Common.{◌≡◌, ℕ, zero, suc, ◌+◌, ◌<◌, Bool, true, false, cond, sym, ap, ap₂, ◌∙◌, arith, ◌⊎◌, inl, inr, Some, None, eq-or-lt_of_le, le_of_suc-le-suc}
use Rattle.std.specs.Option.{option_or}
use Rattle.raid_types.specs.Search.{least_below}

-- the first that passes, once it is reached
pub least_below-reached : (n : ℕ) (test : ℕ → Bool) (k : ℕ) → k < n → least_below k test ≡ None → test k ≡ true → least_below n test ≡ Some k
unfolding least_below
least_below-reached zero test k within before passes = absurd (omega (arith, within))
least_below-reached (suc n) test k within before passes =
    at_place (eq-or-lt_of_le (le_of_suc-le-suc within)) (λ lt. least_below-reached n test k lt before passes)
  where
    at_place : (k ≡ n) ⊎ (k < n) → (k < n → least_below n test ≡ Some k) → option_or (least_below n test) (cond (test n) (Some n) None) ≡ Some k
    at_place (inr lt) found = ap (λ o. option_or o (cond (test n) (Some n) None)) (found lt)
    at_place (inl same) found =
        ap₂ (λ o b. option_or o (cond b (Some n) None)) (ap (λ m. least_below m test) (sym same) ∙ before) (ap test (sym same) ∙ passes)
        ∙ ap (λ m. Some m) (sym same)

pub least_below-passed : (test : ℕ → Bool) (k : ℕ) → least_below k test ≡ None → test k ≡ false → least_below (k + 1) test ≡ None
unfolding least_below
least_below-passed test k before fails =
    let e : k + 1 ≡ suc k = omega arith in
    ap (λ m. least_below m test) e ∙ ap₂ (λ o b. option_or o (cond b (Some k) None)) before fails
