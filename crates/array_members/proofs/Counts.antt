-- Counts below a number.
use Rattle.std.proofs.Common.{◌≡◌, ℕ, zero, suc, ◌+◌, ◌<◌, ◌≤◌, Bool, true, false, cond, refl, arith}
use Rattle.crash_role_laws.specs.raid_types_Search.{count_below}

-- where each that the one counts is counted by the other, there are no more
pub count-implied : (n : ℕ) (f g : ℕ → Bool) → ((k : ℕ) → k < n → f k ≡ true → g k ≡ true) → count_below n f ≤ count_below n g
unfolding count_below
count-implied zero f g implied = omega arith
count-implied (suc n) f g implied = by (f n) (g n) (count-implied n f g (λ k lt. implied k (omega (arith, lt)))) (implied n (omega arith))
  where
    by : (b c : Bool) → count_below n f ≤ count_below n g → (b ≡ true → c ≡ true) → count_below n f + cond b 1 0 ≤ count_below n g + cond c 1 0
    by true true le follows = omega (arith, le)
    by true false le follows = absurd (let e = follows refl in cc)
    by false true le follows = omega (arith, le)
    by false false le follows = omega (arith, le)
