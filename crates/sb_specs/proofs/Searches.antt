-- The least number that passes a test, and whether some number does.
use Rattle.std.proofs.Common.{◌≡◌, ℕ, zero, suc, ◌<◌, inl, inr, Bool, true, false, cond, ◌||◌, refl, ap₂, ◌∙◌, subst, arith, Some, None, eq-or-lt_of_le, le_of_suc-le-suc}
use Rattle.std.specs.Option.{option_or}
use Rattle.reshape_geometry.specs.raid_types_Search.{least_below, any_below}
use Rattle.bank.proofs.raid_types_Least.{least_below-none}

-- the first one that passes
pub least_below-first : (n : ℕ) (test : ℕ → Bool) (k : ℕ) → k < n → test k ≡ true → ((j : ℕ) → j < k → test j ≡ false) → least_below n test ≡ Some k
unfolding least_below
least_below-first zero test k h passes before = absurd (omega (arith, h))
least_below-first (suc n) test k h passes before =
    elim (eq-or-lt_of_le (le_of_suc-le-suc h)) [
      | inl same ↦ subst (λ m. option_or (least_below m test) (cond (test m) (Some m) None) ≡ Some k) same
          (ap₂ (λ a b. option_or a (cond b (Some k) None)) (least_below-none k test before) passes)
      | inr less ↦ ap₂ (λ a b. option_or a (cond b (Some n) None)) (least_below-first n test k less passes before) refl
    ]

pub any_below-some : (n : ℕ) (test : ℕ → Bool) (k : ℕ) → k < n → test k ≡ true → any_below n test ≡ true
unfolding any_below
any_below-some zero test k h passes = absurd (omega (arith, h))
any_below-some (suc n) test k h passes =
    elim (eq-or-lt_of_le (le_of_suc-le-suc h)) [
      | inl same ↦ ap₂ (λ a b. a || b) refl (subst (λ m. test m ≡ true) same passes) ∙ always (any_below n test)
      | inr less ↦ ap₂ (λ a b. a || b) (any_below-some n test k less passes) refl
    ]
  where
    always : (b : Bool) → (b || true) ≡ true
    always true = refl
    always false = refl

pub any_below-none : (n : ℕ) (test : ℕ → Bool) → ((k : ℕ) → k < n → test k ≡ false) → any_below n test ≡ false
unfolding any_below
any_below-none zero test fails = refl
any_below-none (suc n) test fails = ap₂ (λ a b. a || b) (any_below-none n test (λ k h. fails k (omega (arith, h)))) (fails n (omega arith))
