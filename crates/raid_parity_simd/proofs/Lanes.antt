-- Facts about one block of 64 lanes, stored at its place in a sector.
use Rattle.std.proofs.Common.{◌≡◌, ℕ, suc, ◌+◌, ◌-◌, ◌*◌, ◌/◌, ◌<◌, ◌≤◌, inl, inr, List, [], ◌∷◌, length, get_or, refl, sym, ap, ap₂, ◌∙◌, arith}
use Rattle.std.specs.Int.Bits.{bit_xor, xor_assoc, xor_comm, xor_zero_l}
use Rattle.std.specs.Simd.Lanes.{zip2, chunk, put_chunk}
use Rattle.std.proofs.Common.{Bool, true, false, cond, leb, nat_eq, eqb-true, ◌%◌, ◌^◌, map, replicate, w8}
use lib.Lanes.{sel_l, top, Each1}
use mir.Val.{bits, hbits}
use Rattle.raid_parity.specs.raid_gf256_Field.{double, product_of_bits}
use Rattle.raid_parity.proofs.raid_gf256_FieldLaws.{double-lt, bits-suc}
use Rattle.std.proofs.Math.Nat.{zero-mul, one-mul}
use Rattle.std.proofs.lemmas.Bool.{cases_lt, agree_below_at}
use Rattle.std.proofs.lemmas.Simd.{tops_compared, length-sel_l, get_or-sel_l, get_or-replicate, Each1-get_or}
use Rattle.std.proofs.lemmas.Simd.{get_or-put_chunk_below, get_or-put_chunk_at, get_or-put_chunk_above, get_or-chunk, get_or-zip2, length-zip2}

-- what a block that is stored at `at` leaves, where it holds g of the place at each place
pub stored_below : (at k : ℕ) (g : ℕ → ℕ) (xs ys : List ℕ) → length ys ≡ 64 → at + 64 ≤ length xs
    → ((j : ℕ) → j < 64 → get_or ys j 0 ≡ g (at + j)) → ((i : ℕ) → i < at → get_or xs i 0 ≡ g i)
    → k < at + 64 → get_or (put_chunk at xs ys) k 0 ≡ g k
stored_below at k g xs ys len fits block before lt =
    elim (cases_lt k at) [
      | inl below ↦ get_or-put_chunk_below at xs ys k 0 below ∙ before k below
      | inr above ↦
          let e : at + (k - at) ≡ k = omega arith in
          let j : k - at < length ys = omega arith in
          let room : at + length ys ≤ length xs = omega arith in
          ap (λ (x : ℕ). get_or (put_chunk at xs ys) x 0) (sym e)
          ∙ get_or-put_chunk_at at xs ys (k - at) 0 j room ∙ block (k - at) (omega arith) ∙ ap g e
    ]

pub stored_above : (at k : ℕ) (xs ys : List ℕ) → length ys ≡ 64 → at + 64 ≤ k → get_or (put_chunk at xs ys) k 0 ≡ get_or xs k 0
stored_above at k xs ys len le = get_or-put_chunk_above at xs ys k 0 (omega arith)

-- two vectors added
pub xor-len : (v w : List ℕ) → length v ≡ 64 → length w ≡ 64 → length (zip2 bit_xor v w) ≡ 64
xor-len v w hv hw = length-zip2 bit_xor v w (hv ∙ sym hw) ∙ hv

pub xor_lane : (v w : List ℕ) (i : ℕ) → length v ≡ 64 → length w ≡ 64 → i < 64 → get_or (zip2 bit_xor v w) i 0 ≡ bit_xor (get_or v i 0) (get_or w i 0)
xor_lane v w i hv hw lt = get_or-zip2 bit_xor v w i 0 0 0 (omega arith) (omega arith)

-- a vector that was loaded
pub loaded_lane : (at : ℕ) (xs v : List ℕ) (j : ℕ) → v ≡ chunk at 64 xs → j < 64 → get_or v j 0 ≡ get_or xs (at + j) 0
loaded_lane at xs v j e lt = ap (λ (u : List ℕ). get_or u j 0) e ∙ get_or-chunk at 64 xs j 0 lt

-- one that was loaded from a place in a part
pub loaded_place : (bytes v : List ℕ) (start at i : ℕ) → v ≡ chunk (start + at) 64 bytes → i < 64 → get_or v i 0 ≡ get_or bytes (start + (at + i)) 0
loaded_place bytes v start at i e lt =
    let places : start + at + i ≡ start + (at + i) = omega arith in
    loaded_lane (start + at) bytes v i e lt ∙ ap (λ (k : ℕ). get_or bytes k 0) places

pub lanes_below : (xs : List ℕ) → ((i : ℕ) → i < length xs → get_or xs i 0 < 256) → Each1 (λ x. x < 256) xs
lanes_below [] small = tt
lanes_below (x ∷ xs) small = (small 0 (omega arith), lanes_below xs (λ i lt. small (suc i) (omega arith)))

-- ---- doubling

abbrev carries : List ℕ → List Bool
carries v = map (top (hbits w8)) (zip2 (λ (a b : ℕ). cond (leb a b) (2 ^ bits w8 - 1) 0) (replicate 64 128) v)

abbrev returned : List ℕ → List ℕ
returned v = sel_l (carries v) (replicate 64 29) (replicate 64 0)

abbrev pub doubled_lanes : List ℕ → List ℕ
doubled_lanes v = zip2 bit_xor (zip2 (λ (a b : ℕ). (a + b) % 256) v v) (returned v)

abbrev doubles : ℕ → Bool
doubles x = nat_eq (bit_xor ((x + x) % 256) (cond (leb 128 x) 29 0)) (double x)

doubles_at : (x : ℕ) → x < 256 → bit_xor ((x + x) % 256) (cond (leb 128 x) 29 0) ≡ double x
unfolding double
doubles_at x h = eqb-true (bit_xor ((x + x) % 256) (cond (leb 128 x) 29 0)) (double x) (agree_below_at doubles (λ (n : ℕ). true) 256 x refl h)

carries-is : (v : List ℕ) → carries v ≡ zip2 leb (replicate 64 128) v
carries-is v = tops_compared w8 leb (replicate 64 128) v

carries-len : (v : List ℕ) → length v ≡ 64 → length (carries v) ≡ 64
carries-len v h = ap length (carries-is v) ∙ length-zip2 leb (replicate 64 128) v (sym h)

carry_at : (v : List ℕ) (i : ℕ) → length v ≡ 64 → i < 64 → get_or (carries v) i false ≡ leb 128 (get_or v i 0)
carry_at v i h lt =
    ap (λ (x : List Bool). get_or x i false) (carries-is v) ∙ get_or-zip2 leb (replicate 64 128) v i 0 0 false lt (omega arith)
    ∙ ap (λ (x : ℕ). leb x (get_or v i 0)) (get_or-replicate 64 i 128 0 lt)

returned_len : (v : List ℕ) → length v ≡ 64 → length (returned v) ≡ 64
returned_len v h =
    let c = carries-len v h in
    length-sel_l (carries v) (replicate 64 29) (replicate 64 0) c c ∙ c

returned_at : (v : List ℕ) (i : ℕ) → length v ≡ 64 → i < 64 → get_or (returned v) i 0 ≡ cond (leb 128 (get_or v i 0)) 29 0
returned_at v i h lt =
    let c = carries-len v h in
    get_or-sel_l (carries v) (replicate 64 29) (replicate 64 0) i 0 (omega arith) lt lt
    ∙ ap (λ (x : Bool). cond x (get_or (replicate 64 29) i 0) (get_or (replicate 64 0) i 0)) (carry_at v i h lt)
    ∙ ap₂ (λ (x y : ℕ). cond (leb 128 (get_or v i 0)) x y) (get_or-replicate 64 i 29 0 lt) (get_or-replicate 64 i 0 0 lt)

pub doubled_len : (v : List ℕ) → length v ≡ 64 → length (doubled_lanes v) ≡ 64
doubled_len v h =
    let t : length (zip2 (λ (a b : ℕ). (a + b) % 256) v v) ≡ 64 = length-zip2 (λ (a b : ℕ). (a + b) % 256) v v refl ∙ h in
    length-zip2 bit_xor (zip2 (λ (a b : ℕ). (a + b) % 256) v v) (returned v) (t ∙ sym (returned_len v h)) ∙ t

pub doubled_at : (v : List ℕ) (i : ℕ) → length v ≡ 64 → Each1 (λ x. x < 256) v → i < 64 → get_or (doubled_lanes v) i 0 ≡ double (get_or v i 0)
doubled_at v i h each lt =
    let at : i < length v = omega arith in
    let t : length (zip2 (λ (a b : ℕ). (a + b) % 256) v v) ≡ 64 = length-zip2 (λ (a b : ℕ). (a + b) % 256) v v refl ∙ h in
    let r = returned_len v h in
    get_or-zip2 bit_xor (zip2 (λ (a b : ℕ). (a + b) % 256) v v) (returned v) i 0 0 0 (omega arith) (omega arith)
    ∙ ap₂ bit_xor (get_or-zip2 (λ (a b : ℕ). (a + b) % 256) v v i 0 0 0 at at) (returned_at v i h lt)
    ∙ doubles_at (get_or v i 0) (Each1-get_or (λ (x : ℕ). x < 256) v i 0 at each)

pub doubled_below : (v : List ℕ) → length v ≡ 64 → Each1 (λ x. x < 256) v → Each1 (λ x. x < 256) (doubled_lanes v)
doubled_below v h each = lanes_below (doubled_lanes v) (λ i lt.
    let below : i < 64 = omega (arith, lt, doubled_len v h) in
    rw (doubled_at v i h each below) (double-lt (get_or v i 0) (Each1-get_or (λ (x : ℕ). x < 256) v i 0 (omega arith) each)))

-- ---- doubling with another vector added

abbrev twice : List ℕ → List ℕ
twice v = zip2 (λ (a b : ℕ). (a + b) % 256) v v

abbrev pub doubled_with : List ℕ → List ℕ → List ℕ
doubled_with v w = zip2 bit_xor (zip2 bit_xor w (returned v)) (twice v)

twice-len : (v : List ℕ) → length v ≡ 64 → length (twice v) ≡ 64
twice-len v h = length-zip2 (λ (a b : ℕ). (a + b) % 256) v v refl ∙ h

pub doubled_with-len : (v w : List ℕ) → length v ≡ 64 → length w ≡ 64 → length (doubled_with v w) ≡ 64
doubled_with-len v w hv hw = xor-len (zip2 bit_xor w (returned v)) (twice v) (xor-len w (returned v) hw (returned_len v hv)) (twice-len v hv)

regrouped : (w r t : ℕ) → bit_xor (bit_xor w r) t ≡ bit_xor (bit_xor t r) w
regrouped w r t = xor_assoc w r t ∙ ap (bit_xor w) (xor_comm r t) ∙ xor_comm w (bit_xor t r)

pub doubled_with_at : (v w : List ℕ) (i : ℕ) → length v ≡ 64 → length w ≡ 64 → Each1 (λ x. x < 256) v → i < 64
    → get_or (doubled_with v w) i 0 ≡ bit_xor (double (get_or v i 0)) (get_or w i 0)
doubled_with_at v w i hv hw each lt =
    let at : i < length v = omega arith in
    let x : ℕ = get_or v i 0 in
    xor_lane (zip2 bit_xor w (returned v)) (twice v) i (xor-len w (returned v) hw (returned_len v hv)) (twice-len v hv) lt
    ∙ ap₂ bit_xor (xor_lane w (returned v) i hw (returned_len v hv) lt ∙ ap (bit_xor (get_or w i 0)) (returned_at v i hv lt))
    (get_or-zip2 (λ (a b : ℕ). (a + b) % 256) v v i 0 0 0 at at)
    ∙ regrouped (get_or w i 0) (cond (leb 128 x) 29 0) ((x + x) % 256)
    ∙ ap (λ (k : ℕ). bit_xor k (get_or w i 0)) (doubles_at x (Each1-get_or (λ (k : ℕ). k < 256) v i 0 at each))

-- ---- a factor, bit by bit

pub bit_taken : (n s left t : ℕ) → left % 2 ≡ 1
    → bit_xor (bit_xor s t) (product_of_bits n (left / 2) (double t)) ≡ bit_xor s (product_of_bits (suc n) left t)
bit_taken n s left t one =
    xor_assoc s t (product_of_bits n (left / 2) (double t))
    ∙ ap (bit_xor s) (sym (bits-suc n left t ∙ ap (λ (x : ℕ). bit_xor x (product_of_bits n (left / 2) (double t))) (ap (λ (b : ℕ). b * t) one ∙ one-mul t)))

pub bit_left : (n s left t : ℕ) → left % 2 ≡ 0 → bit_xor s (product_of_bits n (left / 2) (double t)) ≡ bit_xor s (product_of_bits (suc n) left t)
bit_left n s left t none =
    ap (bit_xor s) (sym (bits-suc n left t ∙ ap (λ (x : ℕ). bit_xor x (product_of_bits n (left / 2) (double t))) (ap (λ (b : ℕ). b * t) none ∙ zero-mul t)
    ∙ xor_zero_l (product_of_bits n (left / 2) (double t))))

pub bits_none : (left t : ℕ) → product_of_bits 0 left t ≡ 0
unfolding product_of_bits
bits_none left t = refl
