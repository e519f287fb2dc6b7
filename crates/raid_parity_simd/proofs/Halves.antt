-- Products that are looked up by the two halves of a byte.
use Rattle.std.proofs.Common.{◌≡◌, ℕ, ◌+◌, ◌*◌, ◌/◌, ◌%◌, ◌^◌, ◌<◌, Bool, true, List, length, get_or, replicate, nat_eq, eqb-true, refl, sym, ap, ap₂, ◌∙◌, arith, w8, Fits, bit_and}
use Rattle.std.specs.Int.Bits.{bit_xor}
use lib.Lanes.{zip2, Each1}
use Rattle.raid_parity.specs.raid_gf256_Field.{product}
use Rattle.raid_parity.proofs.raid_gf256_FieldLaws.{product-add_r}
use Rattle.std.proofs.lemmas.Bool.{agree_below_at}
use Rattle.std.proofs.lemmas.Simd.{swz_l, SwzOk, SwzOk-from_below, Each1-from_get_or, Each1-get_or, get_or-swz_l_below, length-swz_l, get_or-zip2, length-zip2, get_or-replicate, below_from_Fits}
use Rattle.raid_parity_simd.specs.declared.sectors.TheConstants.{LOW_HALVES, HIGH_HALVES}
use Rattle.raid_parity_simd.proofs.Lanes.{xor-len, xor_lane}

-- ---- the two halves

abbrev low_agrees : ℕ → Bool
low_agrees i = nat_eq (get_or LOW_HALVES i 0) (i % 16)

pub low_place : (i : ℕ) → i < 64 → get_or LOW_HALVES i 0 ≡ i % 16
low_place i lt = eqb-true (get_or LOW_HALVES i 0) (i % 16) (agree_below_at low_agrees (λ (n : ℕ). true) 64 i refl lt)

abbrev high_agrees : ℕ → Bool
high_agrees i = nat_eq (get_or HIGH_HALVES i 0) (i % 16 * 16)

pub high_place : (i : ℕ) → i < 64 → get_or HIGH_HALVES i 0 ≡ i % 16 * 16
high_place i lt = eqb-true (get_or HIGH_HALVES i 0) (i % 16 * 16) (agree_below_at high_agrees (λ (n : ℕ). true) 64 i refl lt)

abbrev masks : ℕ → Bool
masks x = nat_eq (bit_and x 15) (x % 16)

masked : (x : ℕ) → x < 256 → bit_and x 15 ≡ x % 16
masked x lt = eqb-true (bit_and x 15) (x % 16) (agree_below_at masks (λ (n : ℕ). true) 256 x refl lt)

abbrev joins : ℕ → Bool
joins x = nat_eq (bit_xor (x % 16) (x / 16 * 16)) x

joined : (x : ℕ) → x < 256 → bit_xor (x % 16) (x / 16 * 16) ≡ x
joined x lt = eqb-true (bit_xor (x % 16) (x / 16 * 16)) x (agree_below_at joins (λ (n : ℕ). true) 256 x refl lt)

abbrev pub low_halves : List ℕ → List ℕ
low_halves v = zip2 bit_and v (replicate 64 15)

abbrev pub high_halves : List ℕ → List ℕ
high_halves v = zip2 (λ (a b : ℕ). a / 2 ^ b) v (replicate 64 4)

-- ---- looking up

-- positions below sixteen
pub reads_within : (js : List ℕ) → length js ≡ 64 → ((i : ℕ) → i < 64 → get_or js i 0 < 16) → SwzOk w8 16 64 0 js
reads_within js len small = SwzOk-from_below w8 16 4 64 0 js refl (omega arith) (Each1-from_get_or (λ j. j < 16) js 0 (λ i lt. small i (omega arith)))

-- a table that holds g of the place within each sixteen
read_at : (g : ℕ → ℕ) (table js : List ℕ) (i : ℕ) → i < 64 → length js ≡ 64 → get_or js i 0 < 16
    → ((j : ℕ) → j < 64 → get_or table j 0 ≡ g (j % 16)) → get_or (swz_l w8 16 table 0 js) i 0 ≡ g (get_or js i 0)
read_at g table js i lt len small holds =
    let place : ℕ = 16 * ((0 + i) / 16) + get_or js i 0 in
    let within : place % 16 ≡ get_or js i 0 = omega arith in
    get_or-swz_l_below w8 16 table 0 js i (omega arith) small ∙ holds place (omega arith) ∙ ap g within

module _ (v : List ℕ) (fits : (length v ≡ 64) × (Each1 (Fits w8) v)) where
  lane-lt : (i : ℕ) → i < 64 → get_or v i 0 < 256
  lane-lt i lt = Each1-get_or (λ x. x < 256) v i 0 (omega (arith, fits.0)) (below_from_Fits w8 v fits.1)

  low-len : length (low_halves v) ≡ 64
  low-len = length-zip2 bit_and v (replicate 64 15) fits.0 ∙ fits.0

  high-len : length (high_halves v) ≡ 64
  high-len = length-zip2 (λ (a b : ℕ). a / 2 ^ b) v (replicate 64 4) fits.0 ∙ fits.0

  low_lane : (i : ℕ) → i < 64 → get_or (low_halves v) i 0 ≡ get_or v i 0 % 16
  low_lane i lt =
      get_or-zip2 bit_and v (replicate 64 15) i 0 0 0 (omega (arith, fits.0)) lt ∙ ap (bit_and (get_or v i 0)) (get_or-replicate 64 i 15 0 lt)
      ∙ masked (get_or v i 0) (lane-lt i lt)

  high_lane : (i : ℕ) → i < 64 → get_or (high_halves v) i 0 ≡ get_or v i 0 / 16
  high_lane i lt =
      get_or-zip2 (λ (a b : ℕ). a / 2 ^ b) v (replicate 64 4) i 0 0 0 (omega (arith, fits.0)) lt
      ∙ ap (λ (b : ℕ). get_or v i 0 / 2 ^ b) (get_or-replicate 64 i 4 0 lt)

  low_small : (i : ℕ) → i < 64 → get_or (low_halves v) i 0 < 16
  low_small i lt = omega (arith, low_lane i lt)

  high_small : (i : ℕ) → i < 64 → get_or (high_halves v) i 0 < 16
  high_small i lt = omega (arith, high_lane i lt, lane-lt i lt)

  pub low_reads : SwzOk w8 16 64 0 (low_halves v)
  low_reads = reads_within (low_halves v) low-len low_small

  pub high_reads : SwzOk w8 16 64 0 (high_halves v)
  high_reads = reads_within (high_halves v) high-len high_small

  module _ (factor : ℕ) (low high : List ℕ) where
    abbrev both : List ℕ
    both = zip2 bit_xor (swz_l w8 16 low 0 (low_halves v)) (swz_l w8 16 high 0 (high_halves v))

    of_low-len : length (swz_l w8 16 low 0 (low_halves v)) ≡ 64
    of_low-len = length-swz_l w8 16 low 0 (low_halves v) ∙ low-len

    of_high-len : length (swz_l w8 16 high 0 (high_halves v)) ≡ 64
    of_high-len = length-swz_l w8 16 high 0 (high_halves v) ∙ high-len

    pub both-len : length both ≡ 64
    both-len = xor-len (swz_l w8 16 low 0 (low_halves v)) (swz_l w8 16 high 0 (high_halves v)) of_low-len of_high-len

    pub both_lane : ((i : ℕ) → i < 64 → get_or low i 0 ≡ product factor (i % 16)) → ((i : ℕ) → i < 64 → get_or high i 0 ≡ product factor (i % 16 * 16))
        → (i : ℕ) → i < 64 → get_or both i 0 ≡ product factor (get_or v i 0)
    both_lane holds_low holds_high i lt =
        let x : ℕ = get_or v i 0 in
        let small : x < 256 = lane-lt i lt in
        xor_lane (swz_l w8 16 low 0 (low_halves v)) (swz_l w8 16 high 0 (high_halves v)) i of_low-len of_high-len lt
        ∙ ap₂ bit_xor
        (read_at (λ k. product factor k) low (low_halves v) i lt low-len (low_small i lt) holds_low ∙ ap (product factor) (low_lane i lt))
        (read_at (λ k. product factor (k * 16)) high (high_halves v) i lt high-len (high_small i lt) holds_high ∙ ap (λ (k : ℕ). product factor (k * 16)) (high_lane i lt))
        ∙ sym (product-add_r factor (x % 16) (x / 16 * 16) (omega arith) (omega arith)) ∙ ap (product factor) (joined x small)
