-- Sectors at places with the same low 32 bits, and the kind of a sector by the tests that tell it.
use Rattle.std.proofs.Common.{◌≡◌, ℕ, ◌+◌, ◌*◌, ◌/◌, ◌%◌, ◌^◌, ◌≤◌, Bool, true, false, List, [], ◌∷◌, ◌++◌, length, get_or, replicate, take, refl, sym, ap, ap₂, ◌∙◌, arith, cond}
use Rattle.std.proofs.Math.Nat.{mod-add-div', add-mul-mod_self_right, add-mod-mod, mul_assoc}
use Rattle.std.specs.Int.{w32, to_le_bytes}
use Rattle.std.specs.Str.{bytes_eq}
use Rattle.history.specs.raid_types_Search.{tabulate}
use Rattle.history.specs.raid_types_Bytes.{little}
use Rattle.history.specs.raid_types_Sectors.{Sector, zero_sector}
use Rattle.script.specs.Seeds.{seed_byte, seed_sector}
use Rattle.script.specs.Texts.{Zero, Seed, Hex, kind_of, kinds}

-- a remainder by a multiple of m has the remainder by m
pub mod_of_multiple : (x k m : ℕ) → x % (k * m) % m ≡ x % m
mod_of_multiple x k m =
    sym (add-mul-mod_self_right (x % (k * m)) (x / (k * m) * k) m)
    ∙ ap (λ n. (x % (k * m) + n) % m) (mul_assoc (x / (k * m)) k m)
    ∙ ap (λ n. n % m) (mod-add-div' x (k * m))

-- 2 ^ 64 places on, the low 32 bits are the same
pub low_bits_wrapped : (n : ℕ) → n % 2 ^ 64 % 2 ^ 32 ≡ n % 2 ^ 32
low_bits_wrapped n = mod_of_multiple n (2 ^ 32) (2 ^ 32)

low_byte : (x y : ℕ) → x % 2 ^ 32 ≡ y % 2 ^ 32 → x % 256 ≡ y % 256
low_byte x y same = sym (mod_of_multiple x (2 ^ 24) 256) ∙ ap (λ n. n % 256) same ∙ mod_of_multiple y (2 ^ 24) 256

-- places with the same low 32 bits go on alike
pub place_after : (x y k : ℕ) → x % 2 ^ 32 ≡ y % 2 ^ 32 → (x + k) % 2 ^ 32 ≡ (y + k) % 2 ^ 32
place_after x y k same = swapped x ∙ ap (λ n. (k + n) % 2 ^ 32) same ∙ sym (swapped y)
  where
    swapped : (z : ℕ) → (z + k) % 2 ^ 32 ≡ (k + z % 2 ^ 32) % 2 ^ 32
    swapped z = let e : z + k ≡ k + z = omega arith in ap (λ n. n % 2 ^ 32) e ∙ sym (add-mod-mod k z (2 ^ 32))

seed_byte-same : (seed x y b : ℕ) → x % 2 ^ 32 ≡ y % 2 ^ 32 → seed_byte seed x b ≡ seed_byte seed y b
seed_byte-same seed x y b same = parted x ∙ ap (λ n. (seed + b + n) % 256) (low_byte x y same) ∙ sym (parted y)
  where
    parted : (z : ℕ) → (seed + z + b) % 256 ≡ (seed + b + z % 256) % 256
    parted z = let e : seed + z + b ≡ seed + b + z = omega arith in ap (λ n. n % 256) e ∙ sym (add-mod-mod (seed + b) z 256)

pub seed_sector-same : (seed x y : ℕ) → x % 2 ^ 32 ≡ y % 2 ^ 32 → seed_sector seed x ≡ seed_sector seed y
unfolding seed_sector
seed_sector-same seed x y same =
    ap₂ (λ low bytes. to_le_bytes w32 seed ++ to_le_bytes w32 low ++ tabulate 504 bytes)
    same
    (λ i k. seed_byte-same seed x y (8 + k) same i)

pub kind_of-same : (x y : ℕ) (sector : Sector) → x % 2 ^ 32 ≡ y % 2 ^ 32 → kind_of x sector ≡ kind_of y sector
kind_of-same x y sector same =
    let seed = little (take 4 sector) in
    ap (λ written. cond (bytes_eq sector zero_sector) Zero (cond (bytes_eq sector written) (Seed seed) (Hex sector)))
    (seed_sector-same seed x y same)

pub kinds-same : (x y : ℕ) (sectors : List Sector) → x % 2 ^ 32 ≡ y % 2 ^ 32 → kinds x sectors ≡ kinds y sectors
kinds-same x y [] same = refl
kinds-same x y (sector ∷ sectors) same =
    ap₂ (λ kind others. kind ∷ others) (kind_of-same x y sector same) (kinds-same (x + 1) (y + 1) sectors (place_after x y 1 same))

-- ---- a sector's kind, by the tests that tell it

pub kind-zero : (x : ℕ) (sector : Sector) (r : Bool) → r ≡ bytes_eq sector (replicate 512 0) → r ≡ true → Zero ≡ kind_of x sector
unfolding zero_sector
kind-zero x sector r told yes_zero =
    ap (λ b. cond b Zero (cond (bytes_eq sector (seed_sector (little (take 4 sector)) x)) (Seed (little (take 4 sector))) (Hex sector)))
    (sym yes_zero ∙ told)

kind-other : (x : ℕ) (sector : Sector) (r : Bool) → r ≡ bytes_eq sector (replicate 512 0) → r ≡ false
    → cond (bytes_eq sector (seed_sector (little (take 4 sector)) x)) (Seed (little (take 4 sector))) (Hex sector) ≡ kind_of x sector
unfolding zero_sector
kind-other x sector r told not_zero =
    ap (λ b. cond b Zero (cond (bytes_eq sector (seed_sector (little (take 4 sector)) x)) (Seed (little (take 4 sector))) (Hex sector)))
    (sym not_zero ∙ told)

-- the number of the first 4 bytes
pub little-four : (bytes : List ℕ) → 4 ≤ length bytes
    → get_or bytes 0 0 + get_or bytes 1 0 * 256 + get_or bytes 2 0 * 65536 + get_or bytes 3 0 * 16777216 ≡ little (take 4 bytes)
little-four [] long = absurd (omega (arith, long))
little-four (a ∷ []) long = absurd (omega (arith, long))
little-four (a ∷ b ∷ []) long = absurd (omega (arith, long))
little-four (a ∷ b ∷ c ∷ []) long = absurd (omega (arith, long))
little-four (a ∷ b ∷ c ∷ d ∷ bytes) long = omega arith

pub kind-seed : (x : ℕ) (sector written : Sector) (r q : Bool) (seed : ℕ) → r ≡ bytes_eq sector (replicate 512 0) → r ≡ false
    → seed ≡ little (take 4 sector) → written ≡ seed_sector seed x → q ≡ bytes_eq sector written → q ≡ true → Seed seed ≡ kind_of x sector
kind-seed x sector written r q seed told not_zero number content matched yes_seed =
    let e : bytes_eq sector (seed_sector (little (take 4 sector)) x) ≡ true =
    ap (λ s. bytes_eq sector (seed_sector s x)) (sym number) ∙ ap (bytes_eq sector) (sym content) ∙ sym matched ∙ yes_seed in
    ap Seed number ∙ ap (λ b. cond b (Seed (little (take 4 sector))) (Hex sector)) (sym e) ∙ kind-other x sector r told not_zero

pub kind-hex : (x : ℕ) (sector written : Sector) (r q : Bool) (seed : ℕ) → r ≡ bytes_eq sector (replicate 512 0) → r ≡ false
    → seed ≡ little (take 4 sector) → written ≡ seed_sector seed x → q ≡ bytes_eq sector written → q ≡ false → Hex sector ≡ kind_of x sector
kind-hex x sector written r q seed told not_zero number content matched not_seed =
    let e : bytes_eq sector (seed_sector (little (take 4 sector)) x) ≡ false =
    ap (λ s. bytes_eq sector (seed_sector s x)) (sym number) ∙ ap (bytes_eq sector) (sym content) ∙ sym matched ∙ not_seed in
    ap (λ b. cond b (Seed (little (take 4 sector))) (Hex sector)) (sym e) ∙ kind-other x sector r told not_zero
