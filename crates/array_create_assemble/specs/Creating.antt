-- What an array may be made as over a bank: the refusals that need no device call.
use Rattle.std.specs.Prelude.{◌≡◌, ◌<◌, ◌≤◌, ℕ, ◌+◌, ◌-◌, ◌^◌, Bool, not, ◌&&◌, nat_le, nat_lt, if◌then◌else◌, Option, Some, None, MatchOption, option_map, ⊤, IsTrue}
use Rattle.std.specs.Option.{option_or}
use Rattle.array_found_laws.specs.raid_types_the_Refusal.{Refusal}
use Rattle.array_found_laws.specs.raid_types_the_Refusal_TheVariants.{BadShape, SizeNotMultiple, NoSuchSlot, SlotTooSmall}
use Rattle.array_found_laws.specs.raid_types_the_ShapeField.{ShapeField}
use Rattle.array_found_laws.specs.raid_types_the_ShapeField_TheVariants.{Level, Layout, Chunk, Disks, Size, Offset}
use Rattle.array_found_laws.specs.raid_types_Search.{least_below}
use Rattle.array_found_laws.specs.raid_types_Shapes.{is_level, is_layout, is_chunk, is_disk_count, is_multiple, is_valid_shape}
use Rattle.bank.specs.Given.{Given}
use Rattle.array_create_assemble.specs.declared.spec.CreateSpec.{CreateSpec}

-- the backup, if there is one, is the last slot
abbrev pub IsLastSlot : ℕ → Option ℕ → Type 0
IsLastSlot slots backup = MatchOption backup ⊤ (λ slot. slot + 1 ≡ slots)

-- how many slots can be members: all but the backup
abbrev pub member_slots : ℕ → Option ℕ → ℕ
member_slots slots None = slots
member_slots slots (Some backup) = slots - 1

-- the rows of a member: 1 to 2^48
abbrev pub is_row_count : ℕ → Bool
is_row_count size = nat_le 1 size && nat_le size (2 ^ 48)

-- the sector of a member at which its rows begin: 16 to 1,048,576
abbrev pub is_offset : ℕ → Bool
is_offset offset = nat_le 16 offset && nat_le offset 1048576

-- the first value that is out of its limits
abbrev pub bad_field : CreateSpec → Option ShapeField
bad_field spec =
    if not (is_level spec.shape.level) then Some Level
    else if not (is_layout spec.shape.level spec.shape.layout) then Some Layout
    else if not (is_chunk spec.shape.chunk) then Some Chunk
    else if not (is_disk_count spec.shape.level spec.shape.disks) then Some Disks
    else if not (is_row_count spec.size) then Some Size
    else if not (is_offset spec.offset) then Some Offset
    else None

-- where a member's rows end
abbrev pub rows_end : CreateSpec → ℕ
rows_end spec = spec.offset + spec.size

-- the lowest member that is too short for its rows
abbrev pub short_member : Given → CreateSpec → Option ℕ
short_member given spec = least_below spec.shape.disks (λ slot. nat_lt (given.sectors slot) (rows_end spec))

-- The first refusal: a value out of its limits, rows that aren't whole chunks, more disks than member slots, a member too short.
abbrev pub create_refusal : Given → Option ℕ → CreateSpec → Option Refusal
create_refusal given backup spec =
    option_or (option_map (λ field. BadShape field) (bad_field spec))
    (if not (is_multiple spec.size spec.shape.chunk) then Some (SizeNotMultiple spec.size spec.shape.chunk)
    else if nat_lt (member_slots given.slots backup) spec.shape.disks then Some (NoSuchSlot (member_slots given.slots backup))
    else option_map (λ slot. SlotTooSmall (given.sectors slot) (rows_end spec)) (short_member given spec))

-- What nothing of this refuses: the values are within their limits, and the first slots, none of which is the backup, have
-- room for a superblock and the rows.
pub record HasRoom (given : Given) (backup : Option ℕ) (spec : CreateSpec) : Type 0 where
  pub valid : IsTrue (is_valid_shape spec.shape)
  pub multiple : IsTrue (is_multiple spec.size spec.shape.chunk)
  pub two : 2 ≤ spec.shape.disks
  pub disks : spec.shape.disks ≤ 16
  pub some : 1 ≤ spec.size
  pub short : spec.size ≤ 2 ^ 48
  pub behind : 16 ≤ spec.offset
  pub near : spec.offset ≤ 1048576
  pub known : spec.shape.disks ≤ member_slots given.slots backup
  pub within : (slot : ℕ) → slot < spec.shape.disks → rows_end spec ≤ given.sectors slot
