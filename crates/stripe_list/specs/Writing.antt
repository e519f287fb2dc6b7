-- A write of some sectors, from a place of the list on, row by row.
use Rattle.std.specs.Prelude.{◌≡◌, ◌⊎◌, ℕ, ◌+◌, ◌-◌, ◌/◌, ◌<◌, ◌≤◌, List, length, slice_index, Some}
use Rattle.raid_layout.specs.raid_types_the_Shape.{Shape}
use Rattle.raid_layout.specs.raid_types_the_Role_TheVariants.{Recovering}
use Rattle.raid_layout.specs.raid_types_Sectors.{Sector}
use Rattle.stripe_row.specs.bank_Tape.{Contents, IsIn}
use Rattle.raid_layout.specs.Layout.{place}
use Rattle.stripe_row.specs.raid_parity_Rows.{sector_of}
use Rattle.stripe_row.specs.sb_specs_Reading.{Reading, role_state, holder, data_offset_of}
use Rattle.stripe_row.specs.Rows.{held_slot}
use Rattle.stripe_list.specs.Full.{full_sector}
use Rattle.stripe_list.specs.Buffers.{buffered}

-- ---- the roles of a row

-- none of the so many sectors of the list from this place on stands at this role of the row
abbrev pub IsOther : Shape → ℕ → ℕ → ℕ → ℕ → Type 0
IsOther shape first count role row = (x : ℕ) → place shape x ≡ record { role = role; row = row } → (x < first) ⊎ (first + count ≤ x)

-- another sector of the list stands there
abbrev pub HasOther : Shape → ℕ → ℕ → ℕ → ℕ → Type 0
HasOther shape first count role row = (x : ℕ) × (place shape x ≡ record { role = role; row = row }) × ((x < first) ⊎ (first + count ≤ x))

-- one of these stands there
abbrev pub IsChanged : Shape → ℕ → ℕ → ℕ → ℕ → Type 0
IsChanged shape first count role row = (x : ℕ) × (place shape x ≡ record { role = role; row = row }) × (first ≤ x) × (x < first + count)

-- ---- the list

-- the list with these sectors written from a place on
pub record IsWritten (list list' : ℕ → Sector) (first : ℕ) (from : List ℕ) : Type 0 where
  pub here : (x : ℕ) → first ≤ x → x < first + length from / 512 → list' x ≡ sector_of from (x - first)
  pub other : (x : ℕ) → (x < first) ⊎ (first + length from / 512 ≤ x) → list' x ≡ list x

-- these sectors are those of the list that have their places on the row
abbrev pub AreDataOf : Shape → (ℕ → Sector) → ℕ → (ℕ → Sector) → Type 0
AreDataOf shape list row sectors = (x : ℕ) → (place shape x).row ≡ row → sectors (place shape x).role ≡ list x

-- the rows of the buffer have these, from a row on
abbrev pub AreDataFrom : ℕ → Shape → (ℕ → Sector) → List ℕ → List ℕ → Type 0
AreDataFrom start shape list rows buffer = (i : ℕ) → start ≤ i → i < length rows → AreDataOf shape list (slice_index rows i) (buffered buffer i)

-- ---- a row's places

-- each role that a slot holds has its full sector there
abbrev pub IsFull : Reading → Contents → Shape → (ℕ → Sector) → ℕ → Type 0
IsFull r c shape list row = (role slot : ℕ) → role < shape.disks → held_slot r role row ≡ Some slot → c slot (data_offset_of r slot + row) ≡ full_sector shape list row role

-- this slot has the role's full sector of the row
abbrev pub HasFull : Reading → Contents → Shape → (ℕ → Sector) → ℕ → ℕ → ℕ → Type 0
HasFull r c shape list row role slot = c slot (data_offset_of r slot + row) ≡ full_sector shape list row role

-- A row that was rebuilt stays so: each recovering slot that had its role's full sector by the one list has it by the other afterwards.
abbrev pub StaysRebuilt : Reading → Contents → Contents → Shape → (ℕ → Sector) → (ℕ → Sector) → ℕ → Type 0
StaysRebuilt r before after shape list list' row = (role slot : ℕ) → role < shape.disks → role_state r role ≡ Recovering slot
    → HasFull r before shape list row role slot → HasFull r after shape list' row role slot

-- what each slot has of this row is as it was
abbrev pub IsRowKept : Reading → Contents → Contents → ℕ → Type 0
IsRowKept r before after row = (slot : ℕ) → after slot (data_offset_of r slot + row) ≡ before slot (data_offset_of r slot + row)

-- ---- what a stop may leave

-- A sector of a slot is the place of a role in one of these rows, and has its former values, and perhaps the role's full sector.
pub record MayHaveFull (r : Reading) (shape : Shape) (list : ℕ → Sector) (touched : ℕ → Type 0) (s k : ℕ) (old now : List Sector) : Type 0 where
  pub row : ℕ
  pub role : ℕ
  pub among : touched row
  pub within : role < shape.disks
  pub held : holder (role_state r role) ≡ Some s
  pub place : k ≡ data_offset_of r s + row
  pub values : (v : Sector) → IsIn now v → IsIn old v ⊎ (v ≡ full_sector shape list row role)

-- each sector is as it was, or such a place
abbrev pub IsPutting : Reading → Shape → (ℕ → Sector) → (ℕ → Type 0) → (ℕ → ℕ → List Sector) → (ℕ → ℕ → List Sector) → Type 0
IsPutting r shape list touched d e = (s k : ℕ) → (e s k ≡ d s k) ⊎ MayHaveFull r shape list touched s k (d s k) (e s k)

-- no superblock is touched
abbrev pub AreSuperblocksKept : (ℕ → ℕ → List Sector) → (ℕ → ℕ → List Sector) → Type 0
AreSuperblocksKept d e = (slot at : ℕ) → at < 10 → e slot at ≡ d slot at

-- the rows of every holder begin behind the superblock
abbrev pub AreBehind : Reading → Type 0
AreBehind r = (role slot : ℕ) → holder (role_state r role) ≡ Some slot → 10 ≤ data_offset_of r slot
