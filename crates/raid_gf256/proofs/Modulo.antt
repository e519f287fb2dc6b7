-- The product is what division by 11d leaves of the carry-less product.
use Rattle.std.proofs.Common.{◌≡◌, ℕ, zero, suc, ◌+◌, ◌-◌, ◌*◌, ◌/◌, ◌%◌, ◌^◌, ◌<◌, ◌≤◌, inl, inr, Bool, true, nat_eq, eqb-true, if◌then◌else◌, ◌==◌, refl, sym, ap, ap₂, ◌∙◌, arith}
use Rattle.std.specs.Int.Bits.{bit_xor, xor_self, xor_zero_r, xor_mod, xor_shr, xor_shifted}
use Rattle.std.proofs.Math.Nat.{zero-mul, one-mul, pow-suc}
use Rattle.std.proofs.lemmas.Bool.{cases_lt, agree_below_at}
use Rattle.raid_gf256.specs.Field.{double, product_of_bits, product, carryless, remainder}
use Rattle.raid_gf256.proofs.FieldLaws.{swap_middle, bit_cases, bit_times-add, if_bit, product-add_l, product-zero_l}

-- ---- both are additive in the first factor

carryless-suc : (n a b : ℕ) → carryless (suc n) a b ≡ bit_xor (a % 2 * b) (carryless n (a / 2) (2 * b))
unfolding carryless
carryless-suc n a b = ap (λ (x : ℕ). bit_xor x (carryless n (a / 2) (2 * b))) (if_bit (a % 2) b (omega arith))

carryless-add : (n a c b : ℕ) → carryless n (bit_xor a c) b ≡ bit_xor (carryless n a b) (carryless n c b)
unfolding carryless
carryless-add zero a c b = refl
carryless-add (suc n) a c b =
    carryless-suc n (bit_xor a c) b
    ∙ ap (λ (x : ℕ). bit_xor (x * b) (carryless n (bit_xor a c / 2) (2 * b))) (xor_mod a c 1)
    ∙ ap (λ (x : ℕ). bit_xor (bit_xor (a % 2) (c % 2) * b) (carryless n x (2 * b))) (xor_shr a c 1)
    ∙ ap (λ (x : ℕ). bit_xor x (carryless n (bit_xor (a / 2) (c / 2)) (2 * b))) (bit_times-add (a % 2) (c % 2) b (omega arith) (omega arith))
    ∙ ap (λ (x : ℕ). bit_xor (bit_xor (a % 2 * b) (c % 2 * b)) x) (carryless-add n (a / 2) (c / 2) (2 * b))
    ∙ swap_middle (a % 2 * b) (c % 2 * b) (carryless n (a / 2) (2 * b)) (carryless n (c / 2) (2 * b))
    ∙ sym (ap₂ bit_xor (carryless-suc n a b) (carryless-suc n c b))

carryless-zero : (n b : ℕ) → carryless n 0 b ≡ 0
unfolding carryless
carryless-zero zero b = refl
carryless-zero (suc n) b = carryless-suc n 0 b ∙ rw zero-mul (carryless-zero n (2 * b))

-- the divisor is taken off where its top bit is set
taken : (s c m : ℕ) → s < 2 → (if s == 1 then bit_xor c m else c) ≡ bit_xor c (s * m)
taken s c m h = elim (bit_cases s h) [
  | inl s0 ↦ rw (s0, zero-mul) (sym (xor_zero_r c))
  | inr s1 ↦ rw (s1, one-mul) refl
]

remainder-suc : (n c : ℕ) → remainder (suc n) c ≡ remainder n (bit_xor c (c / 2 ^ (n + 8) % 2 * (0x11d * 2 ^ n)))
unfolding remainder
remainder-suc n c = ap (remainder n) (taken (c / 2 ^ (n + 8) % 2) c (0x11d * 2 ^ n) (omega arith))

bit-add : (k c d : ℕ) → bit_xor c d / 2 ^ k % 2 ≡ bit_xor (c / 2 ^ k % 2) (d / 2 ^ k % 2)
bit-add k c d = ap (λ (x : ℕ). x % 2) (xor_shr c d k) ∙ xor_mod (c / 2 ^ k) (d / 2 ^ k) 1

remainder-add : (n c d : ℕ) → remainder n (bit_xor c d) ≡ bit_xor (remainder n c) (remainder n d)
unfolding remainder
remainder-add zero c d = refl
remainder-add (suc n) c d =
    let m : ℕ = 0x11d * 2 ^ n in
    let s : ℕ = c / 2 ^ (n + 8) % 2 in
    let t : ℕ = d / 2 ^ (n + 8) % 2 in
    remainder-suc n (bit_xor c d)
    ∙ ap (remainder n)
    (ap (λ (x : ℕ). bit_xor (bit_xor c d) (x * m)) (bit-add (n + 8) c d)
    ∙ ap (bit_xor (bit_xor c d)) (bit_times-add s t m (omega arith) (omega arith)) ∙ swap_middle c d (s * m) (t * m))
    ∙ remainder-add n (bit_xor c (s * m)) (bit_xor d (t * m))
    ∙ sym (ap₂ bit_xor (remainder-suc n c) (remainder-suc n d))

remainder-zero : (n : ℕ) → remainder n 0 ≡ 0
remainder-zero n = ap (remainder n) (sym (xor_self 0)) ∙ remainder-add n 0 0 ∙ xor_self (remainder n 0)

-- ---- and agree where the first factor is a power of two

abbrev divided : ℕ → ℕ → ℕ
divided a b = remainder 7 (carryless 8 a b)

abbrev agrees : ℕ → Bool
agrees k = nat_eq (product (2 ^ (k / 256)) (k % 256)) (divided (2 ^ (k / 256)) (k % 256))

powers_agree : (i b : ℕ) → i < 8 → b < 256 → product (2 ^ i) b ≡ divided (2 ^ i) b
unfolding product product_of_bits double carryless remainder
powers_agree i b hi hb =
    let high : (i * 256 + b) / 256 ≡ i = omega arith in
    let low : (i * 256 + b) % 256 ≡ b = omega arith in
    ap₂ (λ (x y : ℕ). product (2 ^ x) y) (sym high) (sym low)
    ∙ eqb-true (product (2 ^ ((i * 256 + b) / 256)) ((i * 256 + b) % 256)) (divided (2 ^ ((i * 256 + b) / 256)) ((i * 256 + b) % 256))
    (agree_below_at agrees (λ (x : ℕ). true) 2048 (i * 256 + b) refl (omega arith))
    ∙ ap₂ (λ (x y : ℕ). divided (2 ^ x) y) high low

-- so bit by bit they agree everywhere
by_bits : (n a b : ℕ) → n ≤ 8 → a < 2 ^ n → b < 256 → product a b ≡ divided a b
by_bits zero a b le lt hb =
    let none : a ≡ 0 = omega arith in
    rw none (product-zero_l b ∙ sym (ap (remainder 7) (carryless-zero 8 b) ∙ remainder-zero 7))
by_bits (suc n) a b le lt hb = elim (cases_lt a (2 ^ n)) [
  | inl less ↦ by_bits n a b (omega arith) less hb
  | inr more ↦
      let e : 2 ^ suc n ≡ 2 ^ n * 2 = pow-suc 2 n in
      let below : a - 2 ^ n < 2 ^ n = omega arith in
      let parts : a ≡ bit_xor (2 ^ n) (a - 2 ^ n) =
      sym (ap (λ (x : ℕ). bit_xor x (a - 2 ^ n)) (sym (one-mul (2 ^ n))) ∙ xor_shifted 1 n (a - 2 ^ n) below ∙ ap (λ (x : ℕ). x + (a - 2 ^ n)) (one-mul (2 ^ n)) ∙ omega arith) in
      ap (λ (x : ℕ). product x b) parts ∙ product-add_l (2 ^ n) (a - 2 ^ n) b
      ∙ ap₂ bit_xor (powers_agree n b (omega arith) hb) (by_bits n (a - 2 ^ n) b (omega arith) below hb)
      ∙ sym (ap (λ (x : ℕ). divided x b) parts ∙ ap (remainder 7) (carryless-add 8 (2 ^ n) (a - 2 ^ n) b)
      ∙ remainder-add 7 (carryless 8 (2 ^ n) b) (carryless 8 (a - 2 ^ n) b))
]

pub product-modulo : (a b : ℕ) → a < 256 → b < 256 → product a b ≡ remainder 7 (carryless 8 a b)
product-modulo a b ha hb = by_bits 8 a b (omega arith) ha hb
