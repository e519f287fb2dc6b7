-- The least number that passes a test, and two tests that pass.
use Rattle.std.proofs.Common.{◌≡◌, ℕ, zero, suc, ◌<◌, Bool, true, false, ◌&&◌, cond, Option, Some, None, refl, subst, arith}
use Rattle.std.specs.Option.{option_or}
use Rattle.crash_role_laws.specs.raid_types_Search.{least_below}

-- the least number that passes is below, and passes
pub least-found : (n : ℕ) (test : ℕ → Bool) (k : ℕ) → least_below n test ≡ Some k → (k < n) × (test k ≡ true)
unfolding least_below
least-found zero test k is = absurd (cc)
least-found (suc n) test k is = of (least_below n test) (test n) (least-found n test k) refl is
  where
    of : (before : Option ℕ) (here : Bool) → (before ≡ Some k → (k < n) × (test k ≡ true)) → test n ≡ here → option_or before (cond here (Some n) None) ≡ Some k → (k < suc n) × (test k ≡ true)
    of (Some i) here rest passes e = let found = rest e in (omega (arith, found.0), found.1)
    of None true rest passes e = let same : n ≡ k = cc in (omega (arith, same), subst (λ (i : ℕ). test i ≡ true) same passes)
    of None false rest passes e = absurd (cc)

-- both pass
pub both-parts : (a b : Bool) → (a && b) ≡ true → (a ≡ true) × (b ≡ true)
both-parts true b e = (refl, e)
both-parts false b e = absurd (cc)
