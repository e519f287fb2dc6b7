-- The laws of the field, from the definition of the product by bits.
use Rattle.std.proofs.Common.{◌≡◌, ℕ, zero, suc, ◌+◌, ◌-◌, ◌*◌, ◌/◌, ◌%◌, ◌^◌, ◌<◌, ◌⊎◌, inl, inr, refl, sym, ap, ap₂, ◌∙◌, ◌==◌, arith}
use Rattle.std.specs.Int.Bits.{bit_xor, xor_comm, xor_assoc, xor_self, xor_zero_r, xor_lt, xor_shr, xor_mod, xor_block, xor_shifted}
use Rattle.std.proofs.Math.Nat.{zero-mul, one-mul, mul-zero, add-zero, pow-suc}
use Rattle.std.proofs.lemmas.Bool.{cases_lt, agree_below_at, and_parts, or_cases}
use borrow.Author.Tests.{ltb-true}
use Rattle.std.proofs.Common.{Bool, true, nat_eq, nat_lt, eqb-true, ◌||◌, ◌&&◌, if◌then◌else◌}
use Rattle.raid_gf256.specs.Field.{double, product_of_bits, product, power_of_two}

-- ---- sums

-- (a + b) + (c + d) with the middle two exchanged
pub swap_middle : (a b c d : ℕ) → bit_xor (bit_xor a b) (bit_xor c d) ≡ bit_xor (bit_xor a c) (bit_xor b d)
swap_middle a b c d =
    xor_assoc a b (bit_xor c d)
    ∙ ap (λ (x : ℕ). bit_xor a x) (sym (xor_assoc b c d) ∙ ap (λ (x : ℕ). bit_xor x d) (xor_comm b c) ∙ xor_assoc c b d)
    ∙ sym (xor_assoc a c (bit_xor b d))

pub bit_cases : (s : ℕ) → s < 2 → (s ≡ 0) ⊎ (s ≡ 1)
bit_cases s h = elim (cases_lt s 1) [ inl lt ↦ inl (omega arith) | inr ge ↦ inr (omega arith) ]

-- a bit times an element, of a sum of bits
pub bit_times-add : (s t e : ℕ) → s < 2 → t < 2 → bit_xor s t * e ≡ bit_xor (s * e) (t * e)
bit_times-add s t e hs ht =
    elim (bit_cases s hs) [
      | inl s0 ↦ rw (s0, zero-mul) refl
      | inr s1 ↦ elim (bit_cases t ht) [
        | inl t0 ↦ rw (s1, t0) (rw (zero-mul, one-mul) (sym (xor_zero_r e)))
        | inr t1 ↦ rw (s1, t1) (rw (zero-mul, one-mul) (sym (xor_self e)))
      ]
    ]

-- the same, of a sum of elements
times_bit-add : (s d e : ℕ) → s < 2 → s * bit_xor d e ≡ bit_xor (s * d) (s * e)
times_bit-add s d e hs =
    elim (bit_cases s hs) [
      | inl s0 ↦ rw (s0, zero-mul) (rw (zero-mul, zero-mul) refl)
      | inr s1 ↦ rw (s1, one-mul) (rw (one-mul, one-mul) refl)
    ]

bit_times-lt : (s e : ℕ) → s < 2 → e < 256 → s * e < 256
bit_times-lt s e hs he =
    elim (bit_cases s hs) [ inl s0 ↦ rw (s0, zero-mul) (omega arith) | inr s1 ↦ rw (s1, one-mul) he ]

-- ---- doubling

xor_twice : (a b : ℕ) → bit_xor a b * 2 ≡ bit_xor (a * 2) (b * 2)
xor_twice a b = sym (simp add-zero at (xor_block 1 a b 0 0 (omega arith) (omega arith)))

pub double-zero : double 0 ≡ 0
unfolding double
double-zero = refl

-- without the choice: the low bits move up, and the top bit comes back as 11d without its own top
abbrev halves : ℕ → ℕ
halves a = bit_xor (a % 128 * 2) (a / 128 * 29)

abbrev is_halves : ℕ → Bool
is_halves a = nat_eq (double a) (halves a)

pub double-halves : (a : ℕ) → a < 256 → double a ≡ bit_xor (a % 128 * 2) (a / 128 * 29)
unfolding double
double-halves a h = eqb-true (double a) (halves a) (agree_below_at is_halves (λ (x : ℕ). true) 256 a refl h)

pub double-lt : (a : ℕ) → a < 256 → double a < 256
double-lt a h = rw (double-halves a h) (xor_lt 8 (a % 128 * 2) (a / 128 * 29) (omega arith) (omega arith))

pub double-add : (a b : ℕ) → a < 256 → b < 256 → double (bit_xor a b) ≡ bit_xor (double a) (double b)
double-add a b ha hb =
    double-halves (bit_xor a b) (xor_lt 8 a b ha hb)
    ∙ ap (λ (x : ℕ). bit_xor (x * 2) (bit_xor a b / 128 * 29)) (xor_mod a b 7)
    ∙ ap (λ (x : ℕ). bit_xor (bit_xor (a % 128) (b % 128) * 2) (x * 29)) (xor_shr a b 7)
    ∙ ap (λ (x : ℕ). bit_xor x (bit_xor (a / 128) (b / 128) * 29)) (xor_twice (a % 128) (b % 128))
    ∙ ap (λ (x : ℕ). bit_xor (bit_xor (a % 128 * 2) (b % 128 * 2)) x) (bit_times-add (a / 128) (b / 128) 29 (omega arith) (omega arith))
    ∙ swap_middle (a % 128 * 2) (b % 128 * 2) (a / 128 * 29) (b / 128 * 29)
    ∙ sym (ap₂ bit_xor (double-halves a ha) (double-halves b hb))

-- ---- the product

pub if_bit : (s b : ℕ) → s < 2 → (if s == 1 then b else 0) ≡ s * b
if_bit s b h = elim (bit_cases s h) [ inl s0 ↦ rw (s0, zero-mul) refl | inr s1 ↦ rw (s1, one-mul) refl ]

pub bits-suc : (n a b : ℕ) → product_of_bits (suc n) a b ≡ bit_xor (a % 2 * b) (product_of_bits n (a / 2) (double b))
unfolding product_of_bits
bits-suc n a b = ap (λ (x : ℕ). bit_xor x (product_of_bits n (a / 2) (double b))) (if_bit (a % 2) b (omega arith))

pub product_of_bits-lt : (n a b : ℕ) → b < 256 → product_of_bits n a b < 256
unfolding product_of_bits
product_of_bits-lt zero a b h = omega arith
product_of_bits-lt (suc n) a b h =
    rw (bits-suc n a b) (xor_lt 8 (a % 2 * b) (product_of_bits n (a / 2) (double b)) (bit_times-lt (a % 2) b (omega arith) h)
    (product_of_bits-lt n (a / 2) (double b) (double-lt b h)))

pub product_of_bits-add_l : (n a c b : ℕ) → product_of_bits n (bit_xor a c) b ≡ bit_xor (product_of_bits n a b) (product_of_bits n c b)
unfolding product_of_bits
product_of_bits-add_l zero a c b = refl
product_of_bits-add_l (suc n) a c b =
    bits-suc n (bit_xor a c) b
    ∙ ap (λ (x : ℕ). bit_xor (x * b) (product_of_bits n (bit_xor a c / 2) (double b))) (xor_mod a c 1)
    ∙ ap (λ (x : ℕ). bit_xor (bit_xor (a % 2) (c % 2) * b) (product_of_bits n x (double b))) (xor_shr a c 1)
    ∙ ap (λ (x : ℕ). bit_xor x (product_of_bits n (bit_xor (a / 2) (c / 2)) (double b))) (bit_times-add (a % 2) (c % 2) b (omega arith) (omega arith))
    ∙ ap (λ (x : ℕ). bit_xor (bit_xor (a % 2 * b) (c % 2 * b)) x) (product_of_bits-add_l n (a / 2) (c / 2) (double b))
    ∙ swap_middle (a % 2 * b) (c % 2 * b) (product_of_bits n (a / 2) (double b)) (product_of_bits n (c / 2) (double b))
    ∙ sym (ap₂ bit_xor (bits-suc n a b) (bits-suc n c b))

pub product_of_bits-add_r : (n a b c : ℕ) → b < 256 → c < 256
    → product_of_bits n a (bit_xor b c) ≡ bit_xor (product_of_bits n a b) (product_of_bits n a c)
unfolding product_of_bits
product_of_bits-add_r zero a b c hb hc = refl
product_of_bits-add_r (suc n) a b c hb hc =
    bits-suc n a (bit_xor b c)
    ∙ ap (λ (x : ℕ). bit_xor (a % 2 * bit_xor b c) (product_of_bits n (a / 2) x)) (double-add b c hb hc)
    ∙ ap (λ (x : ℕ). bit_xor x (product_of_bits n (a / 2) (bit_xor (double b) (double c)))) (times_bit-add (a % 2) b c (omega arith))
    ∙ ap (λ (x : ℕ). bit_xor (bit_xor (a % 2 * b) (a % 2 * c)) x) (product_of_bits-add_r n (a / 2) (double b) (double c) (double-lt b hb) (double-lt c hc))
    ∙ swap_middle (a % 2 * b) (a % 2 * c) (product_of_bits n (a / 2) (double b)) (product_of_bits n (a / 2) (double c))
    ∙ sym (ap₂ bit_xor (bits-suc n a b) (bits-suc n a c))

bit_times-double : (s b : ℕ) → s < 2 → double (s * b) ≡ s * double b
bit_times-double s b hs =
    elim (bit_cases s hs) [
      | inl s0 ↦ rw (s0, zero-mul) (rw zero-mul double-zero)
      | inr s1 ↦ rw (s1, one-mul) (rw one-mul refl)
    ]

pub double-product_of_bits : (n a b : ℕ) → b < 256 → double (product_of_bits n a b) ≡ product_of_bits n a (double b)
unfolding product_of_bits
double-product_of_bits zero a b h = double-zero
double-product_of_bits (suc n) a b h =
    ap double (bits-suc n a b)
    ∙ double-add (a % 2 * b) (product_of_bits n (a / 2) (double b)) (bit_times-lt (a % 2) b (omega arith) h) (product_of_bits-lt n (a / 2) (double b) (double-lt b h))
    ∙ ap (λ (x : ℕ). bit_xor x (double (product_of_bits n (a / 2) (double b)))) (bit_times-double (a % 2) b (omega arith))
    ∙ ap (λ (x : ℕ). bit_xor (a % 2 * double b) x) (double-product_of_bits n (a / 2) (double b) (double-lt b h))
    ∙ sym (bits-suc n a (double b))

pub product_of_bits-zero_l : (n b : ℕ) → product_of_bits n 0 b ≡ 0
unfolding product_of_bits
product_of_bits-zero_l zero b = refl
product_of_bits-zero_l (suc n) b = bits-suc n 0 b ∙ rw zero-mul (product_of_bits-zero_l n (double b))

pub product_of_bits-zero_r : (n a : ℕ) → product_of_bits n a 0 ≡ 0
unfolding product_of_bits
product_of_bits-zero_r zero a = refl
product_of_bits-zero_r (suc n) a = bits-suc n a 0 ∙ rw (double-zero, product_of_bits-zero_r n (a / 2)) (simp (mul-zero) refl)

-- an element of n bits needs no further one
low_enough : (n a b : ℕ) → a < 2 ^ n → product_of_bits (suc n) a b ≡ product_of_bits n a b
unfolding product_of_bits
low_enough zero a b h =
    let z : a ≡ 0 = omega arith in
    rw z (bits-suc 0 0 b ∙ rw zero-mul refl)
low_enough (suc n) a b h =
    let e : 2 ^ suc n ≡ 2 ^ n * 2 = pow-suc 2 n in
    let less : a / 2 < 2 ^ n = omega arith in
    bits-suc (suc n) a b ∙ ap (λ (x : ℕ). bit_xor (a % 2 * b) x) (low_enough n (a / 2) (double b) less) ∙ sym (bits-suc n a b)

pub product-add_l : (a c b : ℕ) → product (bit_xor a c) b ≡ bit_xor (product a b) (product c b)
unfolding product
product-add_l a c b = product_of_bits-add_l 8 a c b

pub product-add_r : (a b c : ℕ) → b < 256 → c < 256 → product a (bit_xor b c) ≡ bit_xor (product a b) (product a c)
unfolding product
product-add_r a b c hb hc = product_of_bits-add_r 8 a b c hb hc

-- the doubling may stand at either factor
abbrev top_agrees : ℕ → Bool
top_agrees b = nat_eq (product 29 b) (product 128 (double b))

top_double : (b : ℕ) → b < 256 → product 29 b ≡ product 128 (double b)
unfolding product product_of_bits double
top_double b h = eqb-true (product 29 b) (product 128 (double b)) (agree_below_at top_agrees (λ (x : ℕ). true) 256 b refl h)

double_small : (a : ℕ) → a < 128 → double a ≡ a * 2
double_small a h =
    let low : a % 128 ≡ a = omega arith in
    let high : a / 128 ≡ 0 = omega arith in
    double-halves a (omega arith) ∙ rw (low, high) (xor_zero_r (a * 2))

times_even : (a b : ℕ) → product_of_bits 8 (a * 2) b ≡ product_of_bits 7 a (double b)
times_even a b =
    let even : a * 2 % 2 ≡ 0 = omega arith in
    let half : a * 2 / 2 ≡ a = omega arith in
    bits-suc 7 (a * 2) b
    ∙ ap (λ (x : ℕ). bit_xor (x * b) (product_of_bits 7 (a * 2 / 2) (double b))) even
    ∙ rw zero-mul (ap (λ (x : ℕ). product_of_bits 7 x (double b)) half)

small_slides : (a b : ℕ) → a < 128 → product (double a) b ≡ product a (double b)
unfolding product
small_slides a b h =
    ap (λ (x : ℕ). product_of_bits 8 x b) (double_small a h) ∙ times_even a b ∙ sym (low_enough 7 a (double b) h)

top_case : (b : ℕ) → b < 256 → product (double 128) b ≡ product 128 (double b)
unfolding double
top_case b h = top_double b h

slide_parts : (p q a b : ℕ) → p < 256 → q < 256 → b < 256 → a ≡ bit_xor p q → product (double p) b ≡ product p (double b)
    → product (double q) b ≡ product q (double b) → product (double a) b ≡ product a (double b)
slide_parts p q a b hp hq hb e hpb hqb =
    ap (λ (x : ℕ). product (double x) b) e ∙ ap (λ (x : ℕ). product x b) (double-add p q hp hq)
    ∙ product-add_l (double p) (double q) b ∙ ap (λ (x : ℕ). bit_xor x (product (double q) b)) hpb
    ∙ ap (λ (x : ℕ). bit_xor (product p (double b)) x) hqb ∙ sym (product-add_l p q (double b))
    ∙ ap (λ (x : ℕ). product x (double b)) (sym e)

top_slides : (t b : ℕ) → t < 2 → b < 256 → product (double (t * 128)) b ≡ product (t * 128) (double b)
top_slides t b ht hb =
    elim (bit_cases t ht) [
      | inl t0 ↦ rw (t0, zero-mul) (small_slides 0 b (omega arith))
      | inr t1 ↦ rw (t1, one-mul) (top_case b hb)
    ]

pub product_slides : (a b : ℕ) → a < 256 → b < 256 → product (double a) b ≡ product a (double b)
product_slides a b ha hb =
    let t : a / 128 < 2 = omega arith in
    let r : a % 128 < 128 = omega arith in
    let top : a / 128 * 128 < 256 = omega arith in
    let low : a % 128 < 256 = omega arith in
    let parts : a ≡ bit_xor (a / 128 * 128) (a % 128) = sym (xor_shifted (a / 128) 7 (a % 128) r ∙ omega arith) in
    slide_parts (a / 128 * 128) (a % 128) a b top low hb parts (top_slides (a / 128) b t hb) (small_slides (a % 128) b r)

-- ---- powers

pub doubled : ℕ → ℕ → ℕ
doubled zero a = a
doubled (suc k) a = double (doubled k a)

pub doubled-lt : (k a : ℕ) → a < 256 → doubled k a < 256
unfolding doubled
doubled-lt zero a h = h
doubled-lt (suc k) a h = double-lt (doubled k a) (doubled-lt k a h)

pub power-lt : (k : ℕ) → power_of_two k < 256
unfolding power_of_two
power-lt zero = omega arith
power-lt (suc k) = double-lt (power_of_two k) (power-lt k)

pub product-lt : (a b : ℕ) → b < 256 → product a b < 256
unfolding product
product-lt a b h = product_of_bits-lt 8 a b h

pub double-product : (a b : ℕ) → b < 256 → double (product a b) ≡ product a (double b)
unfolding product
double-product a b h = double-product_of_bits 8 a b h

pub product-one_l : (b : ℕ) → product 1 b ≡ b
unfolding product
product-one_l b =
    bits-suc 7 1 b ∙ ap (λ (x : ℕ). bit_xor (1 * b) x) (product_of_bits-zero_l 7 (double b)) ∙ xor_zero_r (1 * b) ∙ one-mul b

-- a power_of_two times an element doubles it that often
pub product-power : (k a : ℕ) → a < 256 → product (power_of_two k) a ≡ doubled k a
unfolding power_of_two doubled
product-power zero a h = product-one_l a
product-power (suc k) a h =
    product_slides (power_of_two k) a (power-lt k) h ∙ sym (double-product (power_of_two k) a h) ∙ ap double (product-power k a h)

pub doubled-product : (k a b : ℕ) → a < 256 → b < 256 → doubled k (product a b) ≡ product (doubled k a) b
unfolding doubled
doubled-product zero a b ha hb = refl
doubled-product (suc k) a b ha hb =
    ap double (doubled-product k a b ha hb) ∙ double-product (doubled k a) b hb
    ∙ sym (product_slides (doubled k a) b (doubled-lt k a ha) hb)

pub doubled-power : (k j : ℕ) → doubled k (power_of_two j) ≡ power_of_two (k + j)
unfolding doubled
doubled-power zero j = ap power_of_two (omega arith)
doubled-power (suc k) j =
    let e : suc k + j ≡ suc (k + j) = omega arith in
    ap double (doubled-power k j) ∙ rw e (unfold power_of_two in refl)

pub product-powers : (k j : ℕ) → product (power_of_two k) (power_of_two j) ≡ power_of_two (k + j)
product-powers k j = product-power k (power_of_two j) (power-lt j) ∙ doubled-power k j

-- ---- logarithms, from a table of all elements

pub record IsLog (a k : ℕ) : Type 0 where
  pub below : k < 255
  pub value : power_of_two k ≡ a

-- the logarithm, by trying each power_of_two in turn from x to the k, which is p
log_from : ℕ → ℕ → ℕ → ℕ → ℕ
log_from zero k p a = k
log_from (suc n) k p a = if nat_eq p a then k else log_from n (k + 1) (double p) a

pub log_of : ℕ → ℕ
log_of a = log_from 255 0 1 a

abbrev has_log : ℕ → Bool
has_log a = nat_eq a 0 || (nat_lt (log_of a) 255 && nat_eq (power_of_two (log_of a)) a)

log_passes : (a : ℕ) → a < 256 → has_log a ≡ true
unfolding log_of log_from power_of_two double
log_passes a h = agree_below_at has_log (λ (x : ℕ). true) 256 a refl h

pub log_of-is : (a : ℕ) → a < 256 → 0 < a → IsLog a (log_of a)
log_of-is a h pos =
    let t : has_log a ≡ true = log_passes a h in
    elim (or_cases (nat_eq a 0) (nat_lt (log_of a) 255 && nat_eq (power_of_two (log_of a)) a) t) [
      | inl z ↦ absurd (omega (arith, eqb-true a 0 z))
      | inr both ↦
          let parts = and_parts (nat_lt (log_of a) 255) (nat_eq (power_of_two (log_of a)) a) both in
          record { below = ltb-true (log_of a) 255 parts.0; value = eqb-true (power_of_two (log_of a)) a parts.1 }
    ]

-- ---- the field's laws

pub product-zero_l : (a : ℕ) → product 0 a ≡ 0
unfolding product
product-zero_l a = product_of_bits-zero_l 8 a

pub product-zero_r : (a : ℕ) → product a 0 ≡ 0
unfolding product
product-zero_r a = product_of_bits-zero_r 8 a

pub zero_or_more : (a : ℕ) → (a ≡ 0) ⊎ (0 < a)
zero_or_more zero = inl refl
zero_or_more (suc a) = inr (omega arith)

comm_logs : (a b k j : ℕ) → IsLog a k → IsLog b j → product a b ≡ product b a
comm_logs a b k j la lb =
    rw (← la.value, ← lb.value)
    (product-powers k j ∙ ap power_of_two (omega arith) ∙ sym (product-powers j k))

assoc_log : (a b c k : ℕ) → IsLog a k → b < 256 → c < 256 → product (product a b) c ≡ product a (product b c)
assoc_log a b c k la hb hc =
    rw (← la.value)
    (ap (λ (x : ℕ). product x c) (product-power k b hb) ∙ sym (doubled-product k b c hb hc)
    ∙ sym (product-power k (product b c) (product-lt b c hc)))

pub product_comm : (a b : ℕ) → a < 256 → b < 256 → product a b ≡ product b a
product_comm a b ha hb =
    elim (zero_or_more a) [
      | inl a0 ↦ rw a0 (product-zero_l b ∙ sym (product-zero_r b))
      | inr pa ↦ elim (zero_or_more b) [
        | inl b0 ↦ rw b0 (product-zero_r a ∙ sym (product-zero_l a))
        | inr pb ↦ comm_logs a b (log_of a) (log_of b) (log_of-is a ha pa) (log_of-is b hb pb)
      ]
    ]

pub product_assoc : (a b c : ℕ) → a < 256 → b < 256 → c < 256 → product (product a b) c ≡ product a (product b c)
product_assoc a b c ha hb hc =
    elim (zero_or_more a) [
      | inl a0 ↦ rw (a0, product-zero_l, product-zero_l) (sym (product-zero_l (product b c)))
      | inr pa ↦ assoc_log a b c (log_of a) (log_of-is a ha pa) hb hc
    ]

-- x has order 255: the powers below it differ, and its 255th is one
pub power-cycle : power_of_two 255 ≡ 1
unfolding power_of_two double
power-cycle = refl

abbrev log_returns : ℕ → Bool
log_returns k = nat_eq (log_of (power_of_two k)) k

pub log_of-power : (k : ℕ) → k < 255 → log_of (power_of_two k) ≡ k
unfolding log_of log_from power_of_two double
log_of-power k h = eqb-true (log_of (power_of_two k)) k (agree_below_at log_returns (λ (x : ℕ). true) 255 k refl h)

pub power-injective : (j k : ℕ) → j < 255 → k < 255 → power_of_two j ≡ power_of_two k → j ≡ k
power-injective j k hj hk e = sym (log_of-power j hj) ∙ ap log_of e ∙ log_of-power k hk

pub power-cycles : (n : ℕ) → power_of_two (255 * n) ≡ 1
power-cycles zero = unfold power_of_two in refl
power-cycles (suc n) =
    let e : 255 * suc n ≡ 255 + 255 * n = omega arith in
    ap power_of_two e ∙ sym (product-powers 255 (255 * n)) ∙ rw (power-cycle, power-cycles n) (product-one_l 1)

power-back : (k : ℕ) → product (power_of_two k) (power_of_two (255 * k - k)) ≡ 1
power-back k =
    let e : k + (255 * k - k) ≡ 255 * k = omega arith in
    product-powers k (255 * k - k) ∙ ap power_of_two e ∙ power-cycles k

pub power_pos : (k : ℕ) → 0 < power_of_two k
power_pos k =
    elim (zero_or_more (power_of_two k)) [
      | inl z ↦ absurd (omega (arith, sym (power-back k) ∙ ap (λ (x : ℕ). product x (power_of_two (255 * k - k))) z ∙ product-zero_l (power_of_two (255 * k - k))))
      | inr pos ↦ pos
    ]

pub inverse : ℕ → ℕ
inverse a = power_of_two (255 - log_of a)

pub inverse-lt : (a : ℕ) → inverse a < 256
unfolding inverse
inverse-lt a = power-lt (255 - log_of a)

pub product-inverse : (a : ℕ) → a < 256 → 0 < a → product a (inverse a) ≡ 1
unfolding inverse
product-inverse a h pos =
    let l = log_of-is a h pos in
    let lt : log_of a < 255 = l.below in
    let e : log_of a + (255 - log_of a) ≡ 255 = omega arith in
    ap (λ (x : ℕ). product x (power_of_two (255 - log_of a))) (sym l.value)
    ∙ product-powers (log_of a) (255 - log_of a) ∙ ap power_of_two e ∙ power-cycle
