-- Counts of roles that are missing, and of those that are gone.
use Rattle.std.proofs.Common.{◌≡◌, ℕ, zero, suc, ◌+◌, ◌<◌, ◌≤◌, Bool, true, false, cond, inl, inr, refl, sym, subst, arith}
use Rattle.std.proofs.lemmas.Bool.{cases_lt}
use Rattle.std.specs.Prelude.{IsTrue}
use Rattle.raid_types.specs.Search.{count_below}

count-implied : (n : ℕ) (f g : ℕ → Bool) → ((k : ℕ) → k < n → f k ≡ true → g k ≡ true) → count_below n f ≤ count_below n g
unfolding count_below
count-implied zero f g implied = omega arith
count-implied (suc n) f g implied = by (f n) (g n) (count-implied n f g (λ k lt. implied k (omega (arith, lt)))) (implied n (omega arith))
  where
    by : (b c : Bool) → count_below n f ≤ count_below n g → (b ≡ true → c ≡ true) → count_below n f + cond b 1 0 ≤ count_below n g + cond c 1 0
    by true true le follows = omega (arith, le)
    by true false le follows = absurd (let e = follows refl in cc)
    by false true le follows = omega (arith, le)
    by false false le follows = omega (arith, le)

count-longer : (n m : ℕ) (g : ℕ → Bool) → n ≤ m → count_below n g ≤ count_below m g
unfolding count_below
count-longer n zero g le = let none : n ≡ 0 = omega (arith, le) in subst (λ (k : ℕ). count_below k g ≤ 0) (sym none) (omega arith)
count-longer n (suc m) g le = elim (cases_lt m n) [
  | inl above ↦ let same : n ≡ suc m = omega (arith, above, le) in subst (λ (k : ℕ). count_below k g ≤ count_below m g + cond (g m) 1 0) (sym same) (omega arith)
  | inr below ↦ let rest : count_below n g ≤ count_below m g = count-longer n m g below in omega (arith, rest)
]

-- where each missing role is gone, no more are missing than are gone
pub few_missing : (gone : ℕ → Bool) (disks : ℕ) (missing : ℕ → Bool) → disks ≤ 32
    → ((role : ℕ) → role < disks → missing role ≡ true → IsTrue (gone role)) → count_below disks missing ≤ count_below 32 gone
few_missing gone disks missing few told =
    let one : count_below disks missing ≤ count_below disks gone = count-implied disks missing gone told in
    let two : count_below disks gone ≤ count_below 32 gone = count-longer disks 32 gone few in
    omega (arith, one, two)
