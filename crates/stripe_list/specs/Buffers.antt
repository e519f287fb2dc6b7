-- Whole rows, many of them in one buffer.
use Rattle.std.specs.Prelude.{◌≡◌, ◌≢◌, ℕ, ◌+◌, ◌*◌, ◌<◌, ◌≤◌, Bool, true, false, List, length, slice_index, Contains, Some}
use Rattle.raid_layout.specs.raid_types_the_Shape.{Shape}
use Rattle.raid_layout.specs.raid_types_Sectors.{Sector}
use Rattle.stripe_row.specs.bank_Tape.{Contents}
use Rattle.raid_layout.specs.Layout.{place, is_parity_only}
use Rattle.stripe_row.specs.raid_parity_Rows.{sector_of}
use Rattle.stripe_row.specs.sb_specs_Reading.{Reading, data_offset_of}
use Rattle.stripe_row.specs.Rows.{held_slot, is_missing}
use Rattle.stripe_list.specs.Calls.{IsListed}

-- the sector of a role in the i-th of many rows, each of which has room for 16 sectors
abbrev pub buffered : List ℕ → ℕ → ℕ → Sector
buffered bytes i role = sector_of bytes (16 * i + role)

-- one of the so many sectors from this place on has its place on the row
abbrev pub IsTouched : Shape → ℕ → ℕ → ℕ → Type 0
IsTouched shape first count row = (x : ℕ) × (first ≤ x) × (x < first + count) × ((place shape x).row ≡ row)

abbrev pub AreDistinct : List ℕ → Type 0
AreDistinct rows = (i j : ℕ) → i < j → j < length rows → slice_index rows i ≢ slice_index rows j

-- exactly these rows are touched, and each stands there once
pub record AreTouched (shape : Shape) (first count : ℕ) (rows : List ℕ) : Type 0 where
  pub all : (x : ℕ) → first ≤ x → x < first + count → Contains rows (place shape x).row
  pub only : (row : ℕ) → Contains rows row → IsTouched shape first count row
  pub once : AreDistinct rows

-- a role of the shape that has data in some row
abbrev pub HasData : Shape → ℕ → Type 0
HasData shape role = (role < shape.disks) × (is_parity_only shape role ≡ false)

-- no role that has data is missing
abbrev pub IsDataWhole : Reading → Shape → Type 0
IsDataWhole r shape = (role : ℕ) → role < shape.disks → is_missing r role ≡ true → is_parity_only shape role ≡ true

-- each role that a slot holds has the sector that stands there
abbrev pub AreStanding : Reading → Contents → Shape → ℕ → (ℕ → Sector) → Type 0
AreStanding r c shape row sectors = (role slot : ℕ) → role < shape.disks → held_slot r role row ≡ Some slot → sectors role ≡ c slot (data_offset_of r slot + row)

-- What was read of a row: each role that a slot holds in the end has the sector that stands there, and each sector of the list is the list's.
pub record IsRowRead (shape : Shape) (synced : Bool) (old new : Reading) (c : Contents) (row : ℕ) (sectors : ℕ → Sector) : Type 0 where
  pub held : AreStanding new c shape row sectors
  pub listed : (x : ℕ) → (place shape x).row ≡ row → IsListed shape synced old new c x (sectors (place shape x).role)

-- the same of each of these rows, in its part of the buffer
abbrev pub AreRead : Shape → Bool → Reading → Reading → Contents → List ℕ → List ℕ → Type 0
AreRead shape synced old new c rows buffer = (i : ℕ) → i < length rows → IsRowRead shape synced old new c (slice_index rows i) (buffered buffer i)
