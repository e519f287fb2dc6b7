-- Runs of rows: a role's sectors of rows one after another.
use Rattle.std.specs.Prelude.{◌≡◌, ℕ, ◌+◌, ◌<◌, ◌≤◌, ◌==◌, if◌then◌else◌, Some}
use Rattle.raid_layout.specs.raid_types_Sectors.{Sector}
use Rattle.reshape_begin_end.specs.bank_Tape.{Contents}
use Rattle.reshape_begin_end.specs.sb_specs_Reading.{Reading, role_state, holder, data_offset_of}

-- how many of these rows are written further: all, or, once a slot is lost, the first alone
abbrev pub reach : ℕ → ℕ → ℕ
reach lost count = if lost == 0 then count else 1

-- the slot that has this role has these sectors in so many rows from one on
abbrev pub HasRun : Reading → Contents → ℕ → ℕ → ℕ → (ℕ → Sector) → Type 0
HasRun r c role from count sectors = (slot i : ℕ) → holder (role_state r role) ≡ Some slot → i < count → c slot (data_offset_of r slot + (from + i)) ≡ sectors i

-- The place of this role in one of so many rows from one on.
pub record IsRolePlace (r : Reading) (role from count : ℕ) (s k : ℕ) : Type 0 where
  pub row : ℕ
  pub held : holder (role_state r role) ≡ Some s
  pub low : from ≤ row
  pub high : row < from + count
  pub place : k ≡ data_offset_of r s + row
