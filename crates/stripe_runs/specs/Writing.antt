-- A run of rows that is written: the new rows, which of their roles are written, and what a stop may leave on the way.
use Rattle.std.specs.Prelude.{◌≡◌, ◌⊎◌, ℕ, ◌+◌, ◌<◌, ◌≤◌, Bool, true, false, List, ◌∷◌, slice_index, Some}
use Rattle.raid_layout.specs.raid_types_the_Shape.{Shape}
use Rattle.raid_layout.specs.raid_types_Sectors.{Sector}
use Rattle.raid_layout.specs.raid_types_Shapes.{has_slot}
use Rattle.raid_layout.specs.Layout.{row_roles}
use Rattle.raid_parity_simd.specs.Buffers.{buffered}
use Rattle.stripe_row.specs.bank_Tape.{Contents}
use Rattle.stripe_row.specs.raid_parity_Rows.{filled_sector}
use Rattle.stripe_row.specs.sb_specs_Reading.{Reading, role_state, holder, data_offset_of}
use Rattle.stripe_row.specs.Rows.{held_slot}
use Rattle.stripe_row.specs.Writes.{is_parity, is_due}
use Rattle.stripe_runs.specs.declared.runs.Run.{Run}

-- a role's sector of a new row: the data as they are given, and the parity that belongs to them
abbrev pub new_sector_of : Shape → ℕ → (ℕ → Sector) → ℕ → Sector
new_sector_of shape row sectors role = filled_sector (row_roles shape row) (is_parity (row_roles shape row)) shape.disks sectors role

-- that of a run's row in a buffer
abbrev pub new_buffered : Shape → Run → List ℕ → ℕ → ℕ → Sector
new_buffered shape run buffer j role = new_sector_of shape (run.row + j) (buffered buffer (run.at + j)) role

-- the role is written in this row of the run: it has changed there, or is parity
abbrev pub is_due_in : Shape → Run → List ℕ → ℕ → ℕ → Bool
is_due_in shape run changed j role = is_due shape (run.row + j) (slice_index changed (run.at + j)) role

-- each sector has its former values, or one more of these
abbrev pub IsGaining : (ℕ → ℕ → Sector → Type 0) → (ℕ → ℕ → List Sector) → (ℕ → ℕ → List Sector) → Type 0
IsGaining P d e = (s k : ℕ) → (e s k ≡ d s k) ⊎ ((v : Sector) × P s k v × (e s k ≡ v ∷ d s k))

-- The place on a slot of one of these roles, in one of so many rows in which it is due, and its sector of the new row.
pub record IsNewSector (r : Reading) (low high row count : ℕ) (due : ℕ → ℕ → Bool) (new : ℕ → ℕ → Sector) (s k : ℕ) (v : Sector) : Type 0 where
  pub j : ℕ
  pub role : ℕ
  pub among : j < count
  pub from : low ≤ role
  pub below : role < high
  pub is_written : due j role ≡ true
  pub held : holder (role_state r role) ≡ Some s
  pub place : k ≡ data_offset_of r s + (row + j)
  pub value : v ≡ new j role

-- each of these roles has its new sector in the rows in which it is due, on its slot, if that isn't lost
abbrev pub HaveNewSectors : Reading → ℕ → ℕ → ℕ → ℕ → (ℕ → ℕ → Bool) → (ℕ → ℕ → Sector) → ℕ → (ℕ → ℕ → List Sector) → (ℕ → ℕ → List Sector) → Type 0
HaveNewSectors r low high row count due new lost d e = (role j s : ℕ) → low ≤ role → role < high → j < count → due j role ≡ true
    → holder (role_state r role) ≡ Some s → has_slot lost s ≡ false → e s (data_offset_of r s + (row + j)) ≡ new j role ∷ d s (data_offset_of r s + (row + j))

-- at a mark of a run's write: each sector has its former values, and perhaps the new one, if it is the place of a role that is due
abbrev pub IsWritingRun : Reading → Shape → Run → List ℕ → List ℕ → (ℕ → ℕ → List Sector) → (ℕ → ℕ → List Sector) → Type 0
IsWritingRun r shape run changed buffer d e = IsGaining (IsNewSector r 0 shape.disks run.row run.count (is_due_in shape run changed) (new_buffered shape run buffer)) d e

-- and in the end: each role that is due has the new one, on a slot that isn't lost
abbrev pub IsRunWritten : Reading → Shape → Run → List ℕ → List ℕ → ℕ → (ℕ → ℕ → List Sector) → (ℕ → ℕ → List Sector) → Type 0
IsRunWritten r shape run changed buffer lost d e = HaveNewSectors r 0 shape.disks run.row run.count (is_due_in shape run changed) (new_buffered shape run buffer) lost d e

-- each sector that isn't written, of a role whose slot holds it, is the one that stands there
abbrev pub OthersStandIn : Contents → Reading → Shape → Run → List ℕ → List ℕ → Type 0
OthersStandIn c r shape run changed buffer = (role j slot : ℕ) → role < shape.disks → j < run.count → is_due_in shape run changed j role ≡ false
    → held_slot r role (run.row + j) ≡ Some slot → buffered buffer (run.at + j) role ≡ c slot (data_offset_of r slot + (run.row + j))

-- ---- inside

-- The place of one of a slot's sectors, from this one on, that is due, and what is written there.
pub record IsSlotSector (slot at from to : ℕ) (due : ℕ → Bool) (new : ℕ → Sector) (s k : ℕ) (v : Sector) : Type 0 where
  pub j : ℕ
  pub low : from ≤ j
  pub high : j < to
  pub is_written : due j ≡ true
  pub here : s ≡ slot
  pub place : k ≡ at + j
  pub value : v ≡ new j
