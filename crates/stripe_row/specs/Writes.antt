-- What a write of a row leaves: the new row, which of its roles are written, and what a stop may leave on the way.
use Rattle.std.specs.Prelude.{◌≡◌, ◌⊎◌, ℕ, ◌+◌, ◌<◌, Bool, true, false, not, ◌||◌, if◌then◌else◌, List, [], ◌∷◌, Option, Some, None}
use Rattle.sb_specs.specs.raid_types_the_Shape.{Shape}
use Rattle.raid_parity_simd.specs.raid_types_the_RowRoles.{RowRoles}
use Rattle.sb_specs.specs.raid_types_Sectors.{Sector}
use Rattle.sb_specs.specs.raid_types_Shapes.{has_slot}
use Rattle.sb_specs.specs.bank_the_Operation.{Operation}
use Rattle.sb_specs.specs.bank_the_Operation_TheVariants.{Write}
use Rattle.sb_specs.specs.bank_Tape.{Contents}
use Rattle.sb_specs.specs.raid_layout_Layout.{row_roles}
use Rattle.raid_parity_simd.specs.raid_parity_Exponents.{is_data}
use Rattle.raid_parity_simd.specs.raid_parity_Parity.{AreEquationsMet}
use Rattle.raid_parity_simd.specs.raid_parity_Rows.{IsRowRoles, IsSector, sector_of, filled_sector, whole_row}
use Rattle.sb_specs.specs.Reading.{Reading, role_state, holder, data_offset_of}
use Rattle.stripe_row.specs.Rows.{held_slot}

-- ---- the new row

-- the role is the P or the Q of the row
abbrev pub is_parity : RowRoles → ℕ → Bool
is_parity roles role = not (is_data roles role)

-- a role's sector of the new row: the data as they are given, and the parity that belongs to them
abbrev pub new_sector : Shape → ℕ → List ℕ → ℕ → Sector
new_sector shape row bytes role = filled_sector (row_roles shape row) (is_parity (row_roles shape row)) shape.disks (sector_of bytes) role

-- the role is written: it has changed, or is parity
abbrev pub is_due : Shape → ℕ → ℕ → ℕ → Bool
is_due shape row changed role = has_slot changed role || is_parity (row_roles shape row) role

-- the slot to which it is written, also one that is still recovering
abbrev pub due_slot : Reading → Shape → ℕ → ℕ → ℕ → Option ℕ
due_slot r shape row changed role = if is_due shape row changed role then holder (role_state r role) else None

-- ---- what a call takes

-- no slot holds two roles
abbrev pub AreApart : Reading → Type 0
AreApart r = (a b slot : ℕ) → holder (role_state r a) ≡ Some slot → holder (role_state r b) ≡ Some slot → a ≡ b

-- each sector that isn't written, of a role whose slot holds it, is the one that stands there
abbrev pub OthersStand : Contents → Reading → Shape → ℕ → List ℕ → ℕ → Type 0
OthersStand c r shape row bytes changed = (role slot : ℕ) → role < shape.disks → is_due shape row changed role ≡ false
    → held_slot r role row ≡ Some slot → sector_of bytes role ≡ c slot (data_offset_of r slot + row)

-- ---- what a stop may leave

-- A sector has one value more: it is the place of a role of these disks that is written, and the value is that role's sector.
pub record HasNew (disks : ℕ) (slot_of : ℕ → Option ℕ) (at : ℕ → ℕ) (new : ℕ → Sector) (s k : ℕ) (old now : List Sector) : Type 0 where
  pub role : ℕ
  pub within : role < disks
  pub slot : slot_of role ≡ Some s
  pub place : k ≡ at s
  pub value : now ≡ new role ∷ old

-- each sector has its former values, or the new one besides
abbrev pub IsWritingTo : ℕ → (ℕ → Option ℕ) → (ℕ → ℕ) → (ℕ → Sector) → (ℕ → ℕ → List Sector) → (ℕ → ℕ → List Sector) → Type 0
IsWritingTo disks slot_of at new d e = (s k : ℕ) → (e s k ≡ d s k) ⊎ HasNew disks slot_of at new s k (d s k) (e s k)

-- each role that is written, and whose slot isn't lost, has the new value
abbrev pub AreWrittenTo : ℕ → (ℕ → Option ℕ) → (ℕ → ℕ) → (ℕ → Sector) → ℕ → (ℕ → ℕ → List Sector) → (ℕ → ℕ → List Sector) → Type 0
AreWrittenTo disks slot_of at new lost d e =
    (role s : ℕ) → role < disks → slot_of role ≡ Some s → has_slot lost s ≡ false → e s (at s) ≡ new role ∷ d s (at s)

-- the row's own place on a slot
abbrev pub place_on : Reading → ℕ → ℕ → ℕ
place_on r row slot = data_offset_of r slot + row

-- the same of a row that is written
abbrev pub IsWriting : Reading → Shape → ℕ → List ℕ → ℕ → (ℕ → ℕ → List Sector) → (ℕ → ℕ → List Sector) → Type 0
IsWriting r shape row bytes changed d e = IsWritingTo shape.disks (due_slot r shape row changed) (place_on r row) (new_sector shape row bytes) d e

abbrev pub AreWritten : Reading → Shape → ℕ → List ℕ → ℕ → ℕ → (ℕ → ℕ → List Sector) → (ℕ → ℕ → List Sector) → Type 0
AreWritten r shape row bytes changed lost d e = AreWrittenTo shape.disks (due_slot r shape row changed) (place_on r row) (new_sector shape row bytes) lost d e

-- ---- inside

-- a role of this set is written to its slot, also one that is still recovering
abbrev pub slot_in : Reading → ℕ → ℕ → Option ℕ
slot_in r due role = if has_slot due role then holder (role_state r role) else None

-- One role's turn: nothing, or the write of its sector, which a slot does that isn't lost.
pub record IsTurn (slot_of : Option ℕ) (at : ℕ → ℕ) (new : Sector) (lost after : ℕ) (ops : List Operation) : Type 0 where
  pub one : (ops ≡ []) ⊎ ((s : ℕ) × (slot_of ≡ Some s) × (ops ≡ Write s (at s) new ∷ []))
  pub unused : (s : ℕ) → slot_of ≡ Some s → has_slot lost s ≡ true → ops ≡ []
  pub written : (s : ℕ) → slot_of ≡ Some s → has_slot after s ≡ false → ops ≡ Write s (at s) new ∷ []

-- a row of whole sectors whose equations hold
pub record IsGoodRow (roles : RowRoles) (sectors : ℕ → Sector) : Type 0 where
  pub valid : IsRowRoles roles
  pub whole : (role : ℕ) → role < roles.disks → IsSector (sectors role)
  pub good : AreEquationsMet roles (whole_row roles.disks sectors)
