-- Sectors of a part of a buffer.
use Rattle.std.proofs.Common.{◌≡◌, inl, inr, ℕ, ◌+◌, ◌-◌, ◌*◌, ◌<◌, ◌≤◌, List, length, take, drop, sym, ◌∙◌, ap, arith}
use Rattle.std.proofs.lemmas.List.{drop-drop, drop-take, take-take, length-take, length-drop}
use Rattle.std.proofs.lemmas.Slice.{drop-put_mid, take-put_mid_below, between-put_mid}
use borrow.Rule.Slice.PartMut.{put_mid}
use Rattle.raid_parity_simd.specs.Parts.{IsOutside}
use Rattle.stripe_row.specs.raid_parity_Rows.{sector_of}

-- a sector in as few words
pub plain : (bytes : List ℕ) (i : ℕ) → sector_of bytes i ≡ take 512 (drop (512 * i) bytes)
plain bytes i =
    let n : 512 * i + 512 - 512 * i ≡ 512 = omega arith in
    ap (λ (m : ℕ). take m (drop (512 * i) bytes)) n

pub part-length : (bytes : List ℕ) (first count : ℕ) → 512 * (first + count) ≤ length bytes → length (take (512 * (first + count) - 512 * first) (drop (512 * first) bytes)) ≡ 512 * count
part-length bytes first count room = length-take (512 * (first + count) - 512 * first) (drop (512 * first) bytes) ∙ omega (arith, length-drop (512 * first) bytes, room)

-- a sector of a part is a sector of the whole
pub sector-part : (bytes : List ℕ) (first j n : ℕ) → 512 * j + 512 ≤ n → sector_of (take n (drop (512 * first) bytes)) j ≡ sector_of bytes (first + j)
sector-part bytes first j n le =
    let rest : n ≡ 512 * j + (n - 512 * j) = omega (arith, le) in
    let place : 512 * first + 512 * j ≡ 512 * (first + j) = omega arith in
    plain (take n (drop (512 * first) bytes)) j
    ∙ ap (λ (m : ℕ). take 512 (drop (512 * j) (take m (drop (512 * first) bytes)))) rest
    ∙ ap (λ (l : List ℕ). take 512 l) (drop-take (512 * j) (n - 512 * j) (drop (512 * first) bytes))
    ∙ take-take 512 (n - 512 * j) (drop (512 * j) (drop (512 * first) bytes)) (omega (arith, le))
    ∙ ap (λ (l : List ℕ). take 512 l) (drop-drop (512 * j) (512 * first) bytes)
    ∙ ap (λ (m : ℕ). take 512 (drop m bytes)) place ∙ sym (plain bytes (first + j))

pub sector-part_of : (bytes : List ℕ) (first count j : ℕ) → j < count → sector_of (take (512 * (first + count) - 512 * first) (drop (512 * first) bytes)) j ≡ sector_of bytes (first + j)
sector-part_of bytes first count j lt = sector-part bytes first j (512 * (first + count) - 512 * first) (omega (arith, lt))

-- a part is put back
module _ (bytes part : List ℕ) (first count : ℕ) (within : 512 * (first + count) ≤ length bytes) (size : length part ≡ 512 * count) where
  pub sector-part_here : (j : ℕ) → j < count → sector_of (put_mid (512 * first) (512 * (first + count) - 512 * first) bytes part) (first + j) ≡ sector_of part j
  sector-part_here j lt =
      sym (sector-part_of (put_mid (512 * first) (512 * (first + count) - 512 * first) bytes part) first count j lt)
      ∙ ap (λ (l : List ℕ). sector_of l j)
      (between-put_mid (512 * first) (512 * (first + count) - 512 * first) bytes part (512 * (first + count)) (omega (arith, within)) (omega (arith, size)))

  pub sector-part_other : (j : ℕ) → IsOutside first count j → sector_of (put_mid (512 * first) (512 * (first + count) - 512 * first) bytes part) j ≡ sector_of bytes j
  sector-part_other j (inl below) =
      plain (put_mid (512 * first) (512 * (first + count) - 512 * first) bytes part) j
      ∙ sym (drop-take (512 * j) 512 (put_mid (512 * first) (512 * (first + count) - 512 * first) bytes part))
      ∙ ap (λ (l : List ℕ). drop (512 * j) l)
      (take-put_mid_below (512 * first) (512 * (first + count) - 512 * first) bytes part (512 * j + 512) (omega (arith, below)) (omega (arith, within)))
      ∙ drop-take (512 * j) 512 bytes ∙ sym (plain bytes j)
  sector-part_other j (inr above) =
      plain (put_mid (512 * first) (512 * (first + count) - 512 * first) bytes part) j
      ∙ ap (λ (l : List ℕ). take 512 l)
      (drop-put_mid (512 * first) (512 * (first + count) - 512 * first) bytes part (512 * j) (omega (arith, above)) (omega (arith, within)) (omega (arith, size)))
      ∙ sym (plain bytes j)
