-- A flat list of sectors as it stands on the roles of an array.
use Rattle.std.specs.Prelude.{◌≡◌, ℕ, ◌+◌, ◌*◌, ◌/◌, ◌%◌, ◌<◌, ◌==◌, true, false, Some, unwrap_or}
use Rattle.raid_layout.specs.raid_types_the_Shape.{Shape}
use Rattle.raid_layout.specs.raid_types_Search.{least_below}
use Rattle.raid_layout.specs.raid_types_Sectors.{Sector}
use Rattle.raid_layout.specs.raid_types_Shapes.{data_disks}
use Rattle.stripe_row.specs.bank_Tape.{Contents}
use Rattle.raid_layout.specs.Layout.{place, row_roles, stripe_data}
use Rattle.stripe_row.specs.raid_parity_Rows.{IsSector, filled_sector}
use Rattle.stripe_row.specs.sb_specs_Reading.{Reading, data_offset_of}
use Rattle.stripe_row.specs.Rows.{held_slot}
use Rattle.stripe_row.specs.Writes.{is_parity}

-- which data of its stripe a role has in a row, and which sector of the list that is
abbrev pub data_of : Shape → ℕ → ℕ → ℕ
data_of shape row role = unwrap_or (least_below (data_disks shape) (λ i. stripe_data shape (row / shape.chunk) i == role)) 0

abbrev pub listed_at : Shape → ℕ → ℕ → ℕ
listed_at shape row role = (row / shape.chunk * data_disks shape + data_of shape row role) * shape.chunk + row % shape.chunk

-- The sector that a role has in a row, where the flat list is this one: a data role has the list's sector whose place
-- that is, and P and Q are the parity of these.
abbrev pub full_sector : Shape → (ℕ → Sector) → ℕ → ℕ → Sector
full_sector shape list row role = filled_sector (row_roles shape row) (is_parity (row_roles shape row)) shape.disks (λ r. list (listed_at shape row r)) role

-- the sectors of the list that have their places in the row are whole
abbrev pub AreWholeIn : Shape → (ℕ → Sector) → ℕ → Type 0
AreWholeIn shape list row = (x : ℕ) → (place shape x).row ≡ row → IsSector (list x)

-- each data role that a slot holds in a row has its full sector there
abbrev pub DataStands : Reading → Contents → Shape → (ℕ → Sector) → ℕ → Type 0
DataStands r c shape list row = (role slot : ℕ) → role < shape.disks → is_parity (row_roles shape row) role ≡ false → held_slot r role row ≡ Some slot
    → c slot (data_offset_of r slot + row) ≡ full_sector shape list row role

-- and so has each parity role; in an array that was opened dirty that isn't known of every row
abbrev pub ParityStands : Reading → Contents → Shape → (ℕ → Sector) → ℕ → Type 0
ParityStands r c shape list row = (role slot : ℕ) → role < shape.disks → is_parity (row_roles shape row) role ≡ true → held_slot r role row ≡ Some slot
    → c slot (data_offset_of r slot + row) ≡ full_sector shape list row role

-- both: the row stands as the list, so that what it lacks can be filled in
pub record RowStands (r : Reading) (c : Contents) (shape : Shape) (list : ℕ → Sector) (row : ℕ) : Type 0 where
  pub whole : AreWholeIn shape list row
  pub sectors : DataStands r c shape list row
  pub parity : ParityStands r c shape list row
