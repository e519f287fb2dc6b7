-- Sectors that lie apart, joined to the bytes of one row.
use Rattle.std.proofs.Common.{◌≡◌, ℕ, ◌+◌, ◌*◌, ◌/◌, ◌%◌, ◌<◌, ◌≤◌, inl, inr, List, length, get_or, sym, ap₂, ◌∙◌, arith}
use Rattle.std.proofs.Math.ListN.{get_or-eq_default}
use Rattle.std.proofs.lemmas.Bool.{cases_lt}
use Rattle.std.proofs.lemmas.List.{ext_get_or}
use Rattle.raid_parity.specs.raid_types_Search.{tabulate}
use Rattle.raid_parity.proofs.raid_types_Tabulated.{length-tabulate, get_or-tabulate}
use Rattle.raid_parity.specs.Rows.{IsRowOf, byte_of, sector_of}
use Rattle.raid_parity.proofs.Bytes.{sector_byte}
use Rattle.raid_parity.proofs.RowBytes.{sector_of-length}

-- byte `at` of role r is g r at
pub joined : ℕ → (ℕ → ℕ → ℕ) → List ℕ
joined disks g = tabulate (512 * disks) (λ place. g (place / 512) (place % 512))

pub joined-row : (disks : ℕ) (g : ℕ → ℕ → ℕ) → IsRowOf disks (joined disks g)
unfolding joined
joined-row disks g = length-tabulate (512 * disks) (λ place. g (place / 512) (place % 512))

pub joined-byte : (disks : ℕ) (g : ℕ → ℕ → ℕ) (r at : ℕ) → r < disks → at < 512 → byte_of (joined disks g) r at ≡ g r at
unfolding joined
joined-byte disks g r at hr lt =
    let place : ℕ = 512 * r + at in
    let high : place / 512 ≡ r = omega arith in
    let low : place % 512 ≡ at = omega arith in
    get_or-tabulate (512 * disks) (λ k. g (k / 512) (k % 512)) place 0 (omega arith) ∙ ap₂ g high low

-- behind them there is nothing
pub joined-behind : (disks : ℕ) (g : ℕ → ℕ → ℕ) (r at : ℕ) → disks ≤ r → byte_of (joined disks g) r at ≡ 0
joined-behind disks g r at le = let whole = joined-row disks g in get_or-eq_default (joined disks g) 0 (omega (arith, whole))

-- two of them agree where the roles of one number do
pub joined-same : (disks : ℕ) (f g : ℕ → ℕ → ℕ) (r at : ℕ) → at < 512 → (r < disks → f r at ≡ g r at) → byte_of (joined disks f) r at ≡ byte_of (joined disks g) r at
joined-same disks f g r at lt same = elim (cases_lt r disks) [
  | inl within ↦ joined-byte disks f r at within lt ∙ same within ∙ sym (joined-byte disks g r at within lt)
  | inr behind ↦ joined-behind disks f r at behind ∙ sym (joined-behind disks g r at behind)
]

pub joined-lt : (disks : ℕ) (g : ℕ → ℕ → ℕ) → ((r at : ℕ) → r < disks → at < 512 → g r at < 256) → (place : ℕ) → get_or (joined disks g) place 0 < 256
unfolding joined
joined-lt disks g small place = elim (cases_lt place (512 * disks)) [
  | inl within ↦
      rw (get_or-tabulate (512 * disks) (λ k. g (k / 512) (k % 512)) place 0 within) (small (place / 512) (place % 512) (omega arith) (omega arith))
  | inr behind ↦
      let whole = length-tabulate (512 * disks) (λ k. g (k / 512) (k % 512)) in
      let nothing : get_or (tabulate (512 * disks) (λ k. g (k / 512) (k % 512))) place 0 ≡ 0 = get_or-eq_default (tabulate (512 * disks) (λ k. g (k / 512) (k % 512))) 0 (omega (arith, whole)) in
      omega (arith, nothing)
]

-- the sectors of the row are those that were joined
pub joined-sector : (disks : ℕ) (sectors : ℕ → List ℕ) (r : ℕ) → r < disks → length (sectors r) ≡ 512 → sector_of (joined disks (λ k at. get_or (sectors k) at 0)) r ≡ sectors r
joined-sector disks sectors r hr whole =
    let g : ℕ → ℕ → ℕ = λ k at. get_or (sectors k) at 0 in
    let len = sector_of-length (joined disks g) disks r (joined-row disks g) hr in
    ext_get_or 0 (sector_of (joined disks g) r) (sectors r) (len ∙ sym whole) (λ at lt.
    let below : at < 512 = omega (arith, lt, len) in
    sector_byte (joined disks g) r at below ∙ joined-byte disks g r at hr below)
