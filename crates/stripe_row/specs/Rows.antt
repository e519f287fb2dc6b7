-- A row as the members hold it, what stands where none of them does, and which rows can be read and written.
use Rattle.std.specs.Prelude.{◌≡◌, ◌⊎◌, ℕ, ◌+◌, ◌^◌, ◌<◌, ◌≤◌, Bool, true, false, not, nat_lt, if◌then◌else◌, List, length, map, bit_or, Option, Some, None, unwrap_or, option_map, Result, Ok, Err, IsTrue}
use Rattle.std.specs.Option.{option_map_or}
use Rattle.sb_specs.specs.raid_types_the_Shape.{Shape}
use Rattle.sb_specs.specs.raid_types_the_Role.{Role}
use Rattle.sb_specs.specs.raid_types_the_Role_TheVariants.{Missing}
use Rattle.sb_specs.specs.raid_types_Sectors.{Sector}
use Rattle.raid_parity_simd.specs.raid_types_Search.{tabulate, count_below}
use Rattle.sb_specs.specs.raid_types_Shapes.{is_valid_shape, has_slot, tolerance}
use Rattle.sb_specs.specs.bank_the_Operation.{Operation}
use Rattle.sb_specs.specs.bank_Given.{Given, IsFaulted}
use Rattle.sb_specs.specs.bank_Tape.{Contents, contents}
use Rattle.sb_specs.specs.raid_layout_Layout.{row_roles}
use Rattle.raid_parity_simd.specs.raid_parity_Parity.{Row, fill}
use Rattle.raid_parity_simd.specs.raid_parity_Rows.{sector_of}
use Rattle.sb_specs.specs.declared.members.Members.{Members}
use Rattle.sb_specs.specs.Reading.{Reading, role_state, rows_held, holder, is_whole, data_offset_of}

-- what the slots hold now
abbrev pub present : Given → List Operation → Contents
present given tape = contents given.start tape (length tape)

-- what the members say of the array
abbrev pub reading_of : Members → Reading
reading_of members = record { newest = members.newest; own = members.own; roles = members.roles; spares = members.spares }

-- ---- a row

-- a slot holds the role's sector of this row
abbrev pub is_held : Reading → ℕ → ℕ → Bool
is_held r role row = nat_lt row (rows_held r (role_state r role))

-- the slot that does
abbrev pub held_slot : Reading → ℕ → ℕ → Option ℕ
held_slot r role row = if is_held r role row then holder (role_state r role) else None

-- the sector that it holds
abbrev pub held_sector : Contents → Reading → ℕ → ℕ → Option Sector
held_sector c r role row =
    if is_held r role row
    then option_map (λ slot. c slot (data_offset_of r slot + row)) (holder (role_state r role))
    else None

-- a row under a shape, as the members hold it
abbrev pub held_row : Contents → Reading → Shape → ℕ → Row
held_row c r shape row = tabulate shape.disks (λ role. held_sector c r role row)

-- a role's sector of a row: the one that is held, or else what the parity gives
abbrev pub standing_sector : Contents → Reading → Shape → ℕ → ℕ → Sector
standing_sector c r shape row role = unwrap_or (held_sector c r role row) (fill (row_roles shape row) (held_row c r shape row) role)

-- ---- missing roles

-- the role isn't whole
abbrev pub is_missing : Reading → ℕ → Bool
is_missing r role = not (is_whole (role_state r role))

abbrev pub missing_count : Reading → Shape → ℕ
missing_count r shape = count_below shape.disks (is_missing r)

-- no more roles of the shape are missing than it tolerates
abbrev pub IsTolerated : Reading → Shape → Type 0
IsTolerated r shape = missing_count r shape ≤ tolerance shape

-- a role whose holder is one of these slots is missing
abbrev pub role_without : ℕ → Role → Role
role_without lost state = if option_map_or (has_slot lost) (holder state) false then Missing else state

-- the members without the slots that were lost
abbrev pub members_without : ℕ → Members → Members
members_without lost members = record members { roles = map (role_without lost) members.roles; lost = bit_or members.lost lost }

-- the answer of a call is the set of the slots that were lost in it
abbrev pub lost_of : Result ℕ ℕ → ℕ
lost_of (Ok lost) = lost
lost_of (Err lost) = lost

-- each of these slots held one of the first roles, and has failed since
abbrev pub HaveFailed : Reading → ℕ → ℕ → (ℕ → ℕ) → (ℕ → ℕ) → Type 0
HaveFailed r disks lost before after =
    (s : ℕ) → has_slot lost s ≡ true → IsFaulted s before after × (role : ℕ) × (role < disks) × (holder (role_state r role) ≡ Some s)

-- ---- what a call takes

-- a slot of the bank, one of the first 32, that has the rows below the size from its data offset on
pub record IsHolder (given : Given) (r : Reading) (slot : ℕ) : Type 0 where
  pub small : slot < 32
  pub known : slot < given.slots
  pub short : given.sectors slot < 2 ^ 64
  pub within : data_offset_of r slot + r.newest.size ≤ given.sectors slot

-- a row below the size, of a valid shape whose roles the members have, each holder of which has the row
pub record IsRow (given : Given) (r : Reading) (shape : Shape) (row : ℕ) : Type 0 where
  pub valid : IsTrue (is_valid_shape shape)
  pub roles : shape.disks ≤ length r.roles
  pub few : length r.roles ≤ 16
  pub below : row < r.newest.size
  pub short : r.newest.size ≤ 2 ^ 48
  pub holders : (role slot : ℕ) → holder (role_state r role) ≡ Some slot → IsHolder given r slot

-- ---- inside

-- each of these roles is held
abbrev pub AreHeld : Reading → ℕ → ℕ → ℕ → Type 0
AreHeld r row from to = (role : ℕ) → from ≤ role → role < to → is_held r role row ≡ true

-- bytes have the sector of a role whose slot holds it and wasn't lost
abbrev pub HasSector : Contents → Reading → ℕ → ℕ → List ℕ → ℕ → Type 0
HasSector c r row lost bytes role =
    (slot : ℕ) → held_slot r role row ≡ Some slot → has_slot lost slot ≡ false → sector_of bytes role ≡ c slot (data_offset_of r slot + row)

-- at most the role's slot is lost besides, and has failed since
abbrev pub IsLoss : Reading → ℕ → ℕ → ℕ → (ℕ → ℕ) → (ℕ → ℕ) → Type 0
IsLoss r role old new before after =
    (s : ℕ) → has_slot new s ≡ true → (has_slot old s ≡ true) ⊎ (IsFaulted s before after × (holder (role_state r role) ≡ Some s))
