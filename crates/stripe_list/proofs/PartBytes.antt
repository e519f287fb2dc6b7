-- Parts of a buffer of many rows, each with room for 16 sectors.
use Rattle.std.proofs.Common.{◌≡◌, ◌⊎◌, inl, inr, ℕ, ◌+◌, ◌-◌, ◌*◌, ◌<◌, ◌≤◌, List, length, take, drop, sym, ◌∙◌, ap, arith}
use Rattle.std.proofs.lemmas.List.{drop-drop, drop-take, take-take}
use Rattle.std.proofs.lemmas.Slice.{drop-put_mid, take-put_mid_below, between-put_mid}
use borrow.Rule.Slice.PartMut.{put_mid}
use Rattle.stripe_row.specs.raid_parity_Rows.{sector_of}

-- a sector in as few words
plain : (bytes : List ℕ) (role : ℕ) → sector_of bytes role ≡ take 512 (drop (512 * role) bytes)
plain bytes role =
    let n : 512 * role + 512 - 512 * role ≡ 512 = omega arith in
    ap (λ (m : ℕ). take m (drop (512 * role) bytes)) n

-- a sector of a part is a sector of the whole
pub sector-part : (bytes : List ℕ) (i role n : ℕ) → 512 * role + 512 ≤ n → sector_of (take n (drop (8192 * i) bytes)) role ≡ sector_of bytes (16 * i + role)
sector-part bytes i role n le =
    let rest : n ≡ 512 * role + (n - 512 * role) = omega (arith, le) in
    let place : 8192 * i + 512 * role ≡ 512 * (16 * i + role) = omega arith in
    plain (take n (drop (8192 * i) bytes)) role
    ∙ ap (λ (m : ℕ). take 512 (drop (512 * role) (take m (drop (8192 * i) bytes)))) rest
    ∙ ap (λ (l : List ℕ). take 512 l) (drop-take (512 * role) (n - 512 * role) (drop (8192 * i) bytes))
    ∙ take-take 512 (n - 512 * role) (drop (512 * role) (drop (8192 * i) bytes)) (omega (arith, le))
    ∙ ap (λ (l : List ℕ). take 512 l) (drop-drop (512 * role) (8192 * i) bytes)
    ∙ ap (λ (m : ℕ). take 512 (drop m bytes)) place ∙ sym (plain bytes (16 * i + role))

-- a part is put back
pub sector-part_here : (bytes part : List ℕ) (i role n : ℕ) → 512 * role + 512 ≤ n → 8192 * i + n ≤ length bytes → length part ≡ n
    → sector_of (put_mid (8192 * i) (8192 * i + n - 8192 * i) bytes part) (16 * i + role) ≡ sector_of part role
sector-part_here bytes part i role n inside within size =
    let long : 8192 * i + n - 8192 * i ≡ n = omega arith in
    sym (sector-part (put_mid (8192 * i) (8192 * i + n - 8192 * i) bytes part) i role n inside)
    ∙ ap (λ (m : ℕ). sector_of (take m (drop (8192 * i) (put_mid (8192 * i) (8192 * i + n - 8192 * i) bytes part))) role) (sym long)
    ∙ ap (λ (l : List ℕ). sector_of l role) (between-put_mid (8192 * i) (8192 * i + n - 8192 * i) bytes part (8192 * i + n) (omega (arith, within)) (omega (arith, size)))

pub sector-part_other : (bytes part : List ℕ) (i j n : ℕ) → n ≤ 8192 → 8192 * i + n ≤ length bytes → length part ≡ n → (j < 16 * i) ⊎ (16 * i + 16 ≤ j)
    → sector_of (put_mid (8192 * i) (8192 * i + n - 8192 * i) bytes part) j ≡ sector_of bytes j
sector-part_other bytes part i j n small within size (inl below) =
    plain (put_mid (8192 * i) (8192 * i + n - 8192 * i) bytes part) j
    ∙ sym (drop-take (512 * j) 512 (put_mid (8192 * i) (8192 * i + n - 8192 * i) bytes part))
    ∙ ap (λ (l : List ℕ). drop (512 * j) l) (take-put_mid_below (8192 * i) (8192 * i + n - 8192 * i) bytes part (512 * j + 512) (omega (arith, below)) (omega (arith, within)))
    ∙ drop-take (512 * j) 512 bytes ∙ sym (plain bytes j)
sector-part_other bytes part i j n small within size (inr above) =
    plain (put_mid (8192 * i) (8192 * i + n - 8192 * i) bytes part) j
    ∙ ap (λ (l : List ℕ). take 512 l)
    (drop-put_mid (8192 * i) (8192 * i + n - 8192 * i) bytes part (512 * j) (omega (arith, above, small)) (omega (arith, within)) (omega (arith, size)))
    ∙ sym (plain bytes j)
