-- Tests of the numbers below n that agree, or of which one follows from the other.
use Rattle.std.proofs.Common.{◌≡◌, ℕ, zero, suc, ◌+◌, Bool, true, false, ◌&&◌, cond, refl, ap₂}
use Rattle.raid_types.specs.Search.{count_below, all_below}

pub count_below-same : (n : ℕ) (f g : ℕ → Bool) → ((k : ℕ) → f k ≡ g k) → count_below n f ≡ count_below n g
unfolding count_below
count_below-same zero f g same = refl
count_below-same (suc n) f g same = ap₂ (λ a b. a + cond b 1 0) (count_below-same n f g same) (same n)

both : (a b : Bool) → (a && b) ≡ true → (a ≡ true) × (b ≡ true)
both true b e = (refl, e)
both false b e = absurd (cc)

pub all_below-implied : (n : ℕ) (f g : ℕ → Bool) → ((k : ℕ) → f k ≡ true → g k ≡ true) → all_below n f ≡ true → all_below n g ≡ true
unfolding all_below
all_below-implied zero f g implied h = refl
all_below-implied (suc n) f g implied h =
    let parts : (all_below n f ≡ true) × (f n ≡ true) = both (all_below n f) (f n) h in
    ap₂ (λ a b. a && b) (all_below-implied n f g implied parts.0) (implied n parts.1)
