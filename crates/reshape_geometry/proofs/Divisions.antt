-- Quotients, rounded down and up.
use Rattle.std.proofs.Common.{◌≡◌, ℕ, suc, ◌+◌, ◌-◌, ◌*◌, ◌/◌, ◌<◌, ◌≤◌, sym, ap, inl, inr, arith}
use Rattle.std.specs.Int.{div_ceil}
use Rattle.std.proofs.Math.Nat.{div-eq_of_lt-le, div-add-mod', add-mul-div_right, mod-lt, mul-le-mul_right}
use Rattle.std.proofs.lemmas.Bool.{cases_lt}
use Rattle.std.proofs.lemmas.Grind.{div_ceil_times}
use Rattle.reshape_geometry.specs.Geometry.{ceiling}

-- the quotient, between its bounds
pub quotient : (n k : ℕ) → 0 < k → (n / k * k ≤ n) × (n < n / k * k + k)
quotient n k p = let e = div-add-mod' n k in let m = mod-lt n p in (omega (arith, e, m), omega (arith, e, m))

pub quotient_is : (n k q : ℕ) → 0 < k → q * k ≤ n → n < q * k + k → n / k ≡ q
quotient_is n k q p low high = div-eq_of_lt-le k low (omega (arith, high))

-- the quotient rounded up, between its bounds
pub ceiling_bounds : (n k : ℕ) → 0 < k → (n ≤ ceiling n k * k) × (ceiling n k * k < n + k)
ceiling_bounds n k p =
    let b = quotient (n + (k - 1)) k p in
    (omega (arith, b.0, b.1, p), omega (arith, b.0, b.1, p))

pub ceiling_is : (n k q : ℕ) → 0 < k → n ≤ q * k → q * k < n + k → ceiling n k ≡ q
ceiling_is n k q p low high = quotient_is (n + (k - 1)) k q p (omega (arith, low, high, p)) (omega (arith, low, high, p))

pub ceiling-div_ceil : (n k : ℕ) → 0 < k → div_ceil n k ≡ ceiling n k
ceiling-div_ceil n k p =
    let b = div_ceil_times n k p in sym (ceiling_is n k (div_ceil n k) p b.0 b.1)

-- multiplied factors that differ by one
pub next_multiple : (a b k : ℕ) → a < b → a * k + k ≤ b * k
next_multiple a b k lt = let le : (a + 1) * k ≤ b * k = mul-le-mul_right k (omega arith) in omega (arith, le)

pub ceiling_le : (n k q : ℕ) → 0 < k → n ≤ q * k → ceiling n k ≤ q
ceiling_le n k q p high =
    let b = ceiling_bounds n k p in
    elim (cases_lt q (ceiling n k)) [ inl lt ↦ absurd (omega (arith, next_multiple q (ceiling n k) k lt, b.1, high)) | inr ge ↦ ge ]

pub ceiling_grows : (n m k : ℕ) → 0 < k → n ≤ m → ceiling n k ≤ ceiling m k
ceiling_grows n m k p le = let b = ceiling_bounds m k p in ceiling_le n k (ceiling m k) p (omega (arith, b.0))

pub floor_le_ceiling : (n m k : ℕ) → 0 < k → n ≤ m → n / k ≤ ceiling m k
floor_le_ceiling n m k p le =
    let b = ceiling_bounds m k p in
    let f = quotient n k p in
    elim (cases_lt (ceiling m k) (n / k)) [ inl lt ↦ absurd (omega (arith, next_multiple (ceiling m k) (n / k) k lt, b.0, f.0, le, p)) | inr ge ↦ ge ]

pub floor_grows : (n m k : ℕ) → 0 < k → n ≤ m → n / k ≤ m / k
floor_grows n m k p le =
    let f = quotient n k p in
    let g = quotient m k p in
    elim (cases_lt (m / k) (n / k)) [ inl lt ↦ absurd (omega (arith, next_multiple (m / k) (n / k) k lt, f.0, g.1, le)) | inr ge ↦ ge ]

-- whole multiples pass through
pub floor_shifts : (n t k : ℕ) → 0 < k → (n + t * k) / k ≡ n / k + t
floor_shifts n t k p = add-mul-div_right n t p

pub ceiling_shifts : (n t k : ℕ) → 0 < k → ceiling (n + t * k) k ≡ ceiling n k + t
ceiling_shifts n t k p =
    let b = ceiling_bounds n k p in
    ceiling_is (n + t * k) k (ceiling n k + t) p (omega (arith, b.0)) (omega (arith, b.1))

pub floor_of_multiple : (t k : ℕ) → 0 < k → t * k / k ≡ t
floor_of_multiple t k p = quotient_is (t * k) k t p (omega arith) (omega (arith, p))

pub ceiling_of_multiple : (t k : ℕ) → 0 < k → ceiling (t * k) k ≡ t
ceiling_of_multiple t k p = ceiling_is (t * k) k t p (omega arith) (omega (arith, p))

-- one step of k less
pub ceiling_less : (n k m : ℕ) → 0 < k → ceiling n k ≡ suc m → (m * k < n) × (n ≤ m * k + k) × (ceiling (n - k) k ≡ m)
ceiling_less n k m p e =
    let b = ceiling_bounds n k p in
    let times : ceiling n k * k ≡ (m + 1) * k = ap (λ (x : ℕ). x * k) (omega (arith, e)) in
    let low : m * k < n = omega (arith, b.1, times) in
    let high : n ≤ m * k + k = omega (arith, b.0, times) in
    (low, high, ceiling_is (n - k) k m p (omega (arith, high)) (omega (arith, low)))

pub ceiling_zero : (n k : ℕ) → 0 < k → ceiling n k ≡ 0 → n ≡ 0
ceiling_zero n k p e =
    let b = ceiling_bounds n k p in
    let times : ceiling n k * k ≡ 0 * k = ap (λ (x : ℕ). x * k) e in
    omega (arith, b.0, times)
