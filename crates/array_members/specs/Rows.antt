-- Rows as the members hold them, and as they lie in memory.
use Rattle.std.specs.Prelude.{◌≡◌, ℕ, ◌+◌, ◌-◌, ◌*◌, ◌/◌, ◌<◌, ◌≤◌, ◌⊎◌, List, length, take, drop, Some}
use Rattle.crash_role_laws.specs.raid_types_Search.{tabulate}
use Rattle.crash_role_laws.specs.raid_types_Sectors.{Sector}
use Rattle.crash_role_laws.specs.bank_Tape.{Contents, IsIn}
use Rattle.crash_role_laws.specs.raid_layout_Layout.{row_roles}
use Rattle.crash_role_laws.specs.raid_parity_Parity.{AreEquationsMet}
use Rattle.array_members.specs.Whole.{Places, in_row, placed, list_size}

-- a role's sector in bytes that lie role after role
abbrev pub row_sector : List ℕ → ℕ → Sector
row_sector bytes role = take 512 (drop (512 * role) bytes)

-- a row's parity fits
abbrev pub IsGoodRow : Places → Contents → ℕ → Type 0
IsGoodRow p c row = AreEquationsMet (row_roles p.shape row) (tabulate p.shape.disks (λ role. Some (in_row p c row role)))

abbrev pub AreGoodRows : Places → Contents → Type 0
AreGoodRows p c = (row : ℕ) → row < p.size → IsGoodRow p c row

-- ---- a write of some sectors, from a place of the list on

-- the sector of a write at this place of the list
abbrev pub IsOfWrite : ℕ → List ℕ → ℕ → Sector → Type 0
IsOfWrite first from x v = (first ≤ x) × (x < first + length from / 512) × (v ≡ row_sector from (x - first))

-- What a stop may leave on the way, where it might leave d before: each place of the list has its former values, and perhaps its
-- sector of the write; no superblock is touched.
pub record IsPutting (p : Places) (first : ℕ) (from : List ℕ) (d e : ℕ → ℕ → List Sector) : Type 0 where
  pub values : (x : ℕ) → x < list_size p → (v : Sector) → IsIn (placed p e x) v → IsIn (placed p d x) v ⊎ IsOfWrite first from x v
  pub superblocks : (slot at : ℕ) → at < 10 → e slot at ≡ d slot at

-- the list with these sectors written from a place on
pub record IsWritten (list list' : ℕ → Sector) (first : ℕ) (from : List ℕ) : Type 0 where
  pub here : (x : ℕ) → first ≤ x → x < first + length from / 512 → list' x ≡ row_sector from (x - first)
  pub other : (x : ℕ) → (x < first) ⊎ (first + length from / 512 ≤ x) → list' x ≡ list x
