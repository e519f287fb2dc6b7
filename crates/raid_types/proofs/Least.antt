-- The least number that passes: where one number alone passes, it is that one.
use Rattle.std.proofs.Common.{◌≡◌, ℕ, zero, suc, ◌<◌, ◌⊎◌, inl, inr, Bool, true, false, cond, refl, sym, ap, ap₂, ◌∙◌, subst, arith, Some, None, eq-or-lt_of_le, le_of_suc-le-suc}
use Rattle.std.specs.Option.{option_or}
use Rattle.raid_types.specs.Search.{least_below}

pub least_below-none : (n : ℕ) (test : ℕ → Bool) → ((j : ℕ) → j < n → test j ≡ false) → least_below n test ≡ None
unfolding least_below
least_below-none zero test fails = refl
least_below-none (suc n) test fails =
    ap₂ (λ a b. option_or a (cond b (Some n) None)) (least_below-none n test (λ j h. fails j (omega (arith, h)))) (fails n (omega arith))

by_test : (b : Bool) → (b ≡ true → ⊥) → b ≡ false
by_test true no_way = absurd (no_way refl)
by_test false no_way = refl

-- one number below n passes, and no other one does
pub least_below-only : (n : ℕ) (test : ℕ → Bool) (k : ℕ) → k < n → test k ≡ true → ((j : ℕ) → j < n → test j ≡ true → j ≡ k)
    → least_below n test ≡ Some k
unfolding least_below
least_below-only zero test k h passes only = absurd (omega (arith, h))
least_below-only (suc n) test k h passes only = at_place (eq-or-lt_of_le (le_of_suc-le-suc h)) (λ lt. least_below-only n test k lt passes (λ j l. only j (omega (arith, l))))
  where
    at_place : (k ≡ n) ⊎ (k < n) → (k < n → least_below n test ≡ Some k) → option_or (least_below n test) (cond (test n) (Some n) None) ≡ Some k
    at_place (inr lt) found = ap (λ o. option_or o (cond (test n) (Some n) None)) (found lt)
    at_place (inl same) found =
        ap₂ (λ a b. option_or a (cond b (Some n) None))
        (least_below-none n test (λ j l. by_test (test j) (λ passed. let e : j ≡ k = only j (omega (arith, l)) passed in omega (arith, e, l, same))))
        (subst (λ m. test m ≡ true) same passes)
        ∙ ap (λ m. Some m) (sym same)
