-- An array of one shape with every role whole: where its sectors stand, what a stop may leave of them, and when that is safe.
use Rattle.std.specs.Prelude.{◌≡◌, ℕ, ◌+◌, ◌*◌, ◌^◌, ◌<◌, ◌≤◌, false, List, [], ◌∷◌, Some, None, IsTrue, ⊤}
use Rattle.crash_role_laws.specs.raid_types_the_Shape.{Shape}
use Rattle.crash_role_laws.specs.raid_types_the_Role_TheVariants.{Whole}
use Rattle.crash_role_laws.specs.raid_types_Sectors.{Sector}
use Rattle.crash_role_laws.specs.raid_types_Shapes.{is_valid_shape, is_multiple, data_disks}
use Rattle.crash_role_laws.specs.bank_the_Operation.{Operation}
use Rattle.crash_role_laws.specs.bank_the_Operation_TheVariants.{Write, Flush}
use Rattle.crash_role_laws.specs.bank_Tape.{Contents, IsIn}
use Rattle.crash_role_laws.specs.raid_layout_Layout.{place}
use Rattle.crash_role_laws.specs.sb_specs_Reading.{Scope, Reading, reading, is_seen, is_reshaping, shape_of, role_state, data_offset_of}
use Rattle.crash_role_laws.specs.history_Stands.{refusal_of}
use Rattle.crash_role_laws.specs.history_Same.{IsElsewhere}

-- The shape, the rows of a member, and for each role its slot and the sector at which its rows begin.
pub record Places : Type 0 where
  pub shape : Shape
  pub size : ℕ
  pub slot : ℕ → ℕ
  pub offset : ℕ → ℕ

-- the numbers fit together
pub record AreFit (p : Places) : Type 0 where
  pub valid : IsTrue (is_valid_shape p.shape)
  pub multiple : IsTrue (is_multiple p.size p.shape.chunk)
  pub short : p.size ≤ 2 ^ 48

-- what stands at a role's sector of a row
abbrev pub in_row : {A : Type 0} → Places → (ℕ → ℕ → A) → ℕ → ℕ → A
in_row p d row role = d (p.slot role) (p.offset role + row)

-- the slot on which a sector of the flat list has its place, and the sector of that slot
abbrev pub slot_of : Places → ℕ → ℕ
slot_of p x = p.slot (place p.shape x).role

abbrev pub sector_of : Places → ℕ → ℕ
sector_of p x = p.offset (place p.shape x).role + (place p.shape x).row

-- what stands at the place of a sector of the flat list
abbrev pub placed : {A : Type 0} → Places → (ℕ → ℕ → A) → ℕ → A
placed p d x = d (slot_of p x) (sector_of p x)

-- the sectors of the flat list
abbrev pub list_size : Places → ℕ
list_size p = data_disks p.shape * p.size

-- This is a reading of an array that stands there: nothing is refused, no reshape is active, and every role is whole.
pub record IsReadWhole (scope : Scope) (p : Places) (r : Reading) : Type 0 where
  pub accepted : refusal_of scope r ≡ None
  pub still : is_reshaping r.newest ≡ false
  pub shape : shape_of r.newest ≡ p.shape
  pub size : r.newest.size ≡ p.size
  pub whole : (role : ℕ) → role < p.shape.disks → role_state r role ≡ Whole (p.slot role)
  pub offset : (role : ℕ) → role < p.shape.disks → data_offset_of r (p.slot role) ≡ p.offset role

-- a choice of what each slot that is looked at may hold in its superblock
pub record AreDrawnSuperblocks (scope : Scope) (d : ℕ → ℕ → List Sector) (c : Contents) : Type 0 where
  pub eighth : (slot : ℕ) → IsTrue (is_seen scope slot) → IsIn (d slot 8) (c slot 8)
  pub ninth : (slot : ℕ) → IsTrue (is_seen scope slot) → IsIn (d slot 9) (c slot 9)

-- whatever superblocks are drawn from these values, the array is read there
abbrev pub AreReadWhole : Scope → Places → (ℕ → ℕ → List Sector) → Type 0
AreReadWhole scope p d = (c : Contents) → AreDrawnSuperblocks scope d c → (r : Reading) × (reading scope c ≡ Some r) × IsReadWhole scope p r

-- each sector may hold only values that the flat list allows it
abbrev pub AreAllowed : Places → (ℕ → List Sector) → (ℕ → ℕ → List Sector) → Type 0
AreAllowed p values d = (x : ℕ) → x < list_size p → (v : Sector) → IsIn (placed p d x) v → IsIn (values x) v

-- what a stop may leave is right by these values of the flat list
pub record AreRight (scope : Scope) (p : Places) (values : ℕ → List Sector) (d : ℕ → ℕ → List Sector) : Type 0 where
  pub read : AreReadWhole scope p d
  pub allowed : AreAllowed p values d

-- The operation leaves the superblocks alone, and what it writes at the place of a sector of the flat list is a value of that.
abbrev pub IsAllowedWrite : Scope → Places → (ℕ → List Sector) → Operation → Type 0
IsAllowedWrite scope p values (Write slot at bytes) =
    IsElsewhere scope slot at × ((x : ℕ) → x < list_size p → slot_of p x ≡ slot → sector_of p x ≡ at → IsIn (values x) bytes)
IsAllowedWrite scope p values (Flush slot) = ⊤

abbrev pub AreAllowedWrites : Scope → Places → (ℕ → List Sector) → List Operation → Type 0
AreAllowedWrites scope p values [] = ⊤
AreAllowedWrites scope p values (op ∷ ops) = IsAllowedWrite scope p values op × AreAllowedWrites scope p values ops
