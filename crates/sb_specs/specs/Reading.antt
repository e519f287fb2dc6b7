-- What the stored superblocks say of an array: one function of the bytes.
use Rattle.std.specs.Prelude.{ℕ, ◌+◌, ◌-◌, ◌*◌, ◌^◌, Bool, false, true, not, ◌&&◌, ◌||◌, ◌==◌, nat_le, nat_lt, if◌then◌else◌, min, max, List, [], ◌∷◌, slice_index_or, ℤ, pos, negsuc, ◌-ℤ◌, Option, Some, None, unwrap_or, option_map, option_to_list, bytes_eq}
use Rattle.std.specs.Option.{option_map_or}
use Rattle.std.specs.Int.{bit_at}
use Rattle.reshape_geometry.specs.raid_types_the_Shape.{Shape}
use Rattle.bank.specs.raid_types_the_Span.{Span}
use Rattle.bank.specs.raid_types_the_Role.{Role}
use Rattle.bank.specs.raid_types_the_Role_TheVariants.{Whole, Recovering, Missing}
use Rattle.reshape_geometry.specs.raid_types_Shapes.{data_disks, has_slot}
use Rattle.reshape_geometry.specs.raid_types_Search.{tabulate}
use Rattle.sb_codec.specs.declared.sb.Sb.{Sb}
use Rattle.bank.specs.Given.{Sizes}
use Rattle.bank.specs.Tape.{Contents}
use Rattle.sb_codec.specs.Superblock.{superblock_in}
use Rattle.reshape_geometry.specs.Geometry.{window}

-- Which slots are looked at, for which array, which slot is the backup, and how many slots there are, of how many
-- sectors each.
pub record Scope : Type 0 where
  pub uuid : List ℕ
  pub given : ℕ
  pub backup : Option ℕ
  pub sizes : Sizes

-- the slot is the backup
abbrev pub is_backup : Option ℕ → ℕ → Bool
is_backup None slot = false
is_backup (Some backup) slot = backup == slot

-- the slot is looked at for a member
abbrev pub is_seen : Scope → ℕ → Bool
is_seen scope slot = has_slot scope.given slot && not (is_backup scope.backup slot)

abbrev pub of_array : List ℕ → Option Sb → Option Sb
of_array uuid None = None
of_array uuid (Some sb) = if bytes_eq sb.set_uuid uuid then Some sb else None

-- the valid superblock in a slot that is looked at, whichever array's it is
abbrev pub seen_superblock : Scope → Contents → ℕ → Option Sb
seen_superblock scope c slot = if is_seen scope slot then superblock_in (scope.sizes.sectors slot) (c slot) else None

-- the array's superblock in each slot
abbrev pub superblocks : Scope → Contents → List (Option Sb)
superblocks scope c = tabulate scope.sizes.slots (λ slot. of_array scope.uuid (seen_superblock scope c slot))

-- the uuid of the first superblock, whichever array's it is; an assembly without a uuid takes it
abbrev pub uuid_of_first : List (Option Sb) → Option (List ℕ)
uuid_of_first [] = None
uuid_of_first (None ∷ seen) = uuid_of_first seen
uuid_of_first (Some sb ∷ seen) = Some sb.set_uuid

-- the one with the higher event count, and the first of two equals
abbrev pub newer : Sb → Option Sb → Sb
newer sb None = sb
newer sb (Some other) = if nat_lt sb.events other.events then other else sb

-- the newest: the highest event count, on the lowest slot that has it
abbrev pub newest_of : List (Option Sb) → Option Sb
newest_of [] = None
newest_of (None ∷ own) = newest_of own
newest_of (Some sb ∷ own) = Some (newer sb (newest_of own))

-- ---- what the newest superblock says of the array

abbrev pub is_reshaping : Sb → Bool
is_reshaping sb = bit_at sb.feature_map 2 == 1

-- recovery_offset counts
abbrev pub is_recovering : Sb → Bool
is_recovering sb = bit_at sb.feature_map 1 == 1

-- a difference as a count, and 0 for one below 0
abbrev pub count_of : ℤ → ℕ
count_of (pos n) = n
count_of (negsuc n) = 0

abbrev pub is_negative : ℤ → Bool
is_negative (pos n) = false
is_negative (negsuc n) = true

abbrev pub is_zero : ℤ → Bool
is_zero (pos n) = n == 0
is_zero (negsuc n) = false

-- the shape, which is the old one while a reshape is active: raid_disks is then the new count
abbrev pub shape_of : Sb → Shape
shape_of sb = record {
  level = sb.level;
  layout = sb.layout;
  chunk = sb.chunksize;
  disks = if is_reshaping sb then count_of (pos sb.raid_disks -ℤ sb.delta_disks) else sb.raid_disks;
}

-- the new shape of an active reshape
abbrev pub target_of : Sb → Option Shape
target_of sb =
    if is_reshaping sb
    then Some (record { level = sb.new_level; layout = sb.new_layout; chunk = sb.new_chunk; disks = sb.raid_disks })
    else None

-- the shape that will stand in the end
abbrev pub final_shape : Sb → Shape
final_shape sb = unwrap_or (target_of sb) (shape_of sb)

-- the one or two shapes in force, the old one first
abbrev pub shapes_in_force : Sb → List Shape
shapes_in_force sb = shape_of sb ∷ option_to_list (target_of sb)

-- backward: with fewer disks, or with as many where bit 5 of the feature map says so
abbrev pub is_backward : Sb → Bool
is_backward sb = is_negative sb.delta_disks || is_zero sb.delta_disks && (bit_at sb.feature_map 5 == 1)

-- how many roles there are: the larger disk count in force
abbrev pub role_count : Sb → ℕ
role_count sb = max (shape_of sb).disks (final_shape sb).disks

-- the flat list's length: the rows, times the data disks, or the fewer of them while a reshape is active
abbrev pub list_length : Sb → ℕ
list_length sb = min (data_disks (shape_of sb)) (data_disks (final_shape sb)) * sb.size

-- clean where resync_offset is all ones
abbrev pub is_clean : Sb → Bool
is_clean sb = sb.resync_offset == 2 ^ 64 - 1

-- the next window of an active reshape
abbrev pub next_window : Sb → Option Span
next_window sb =
    if is_reshaping sb then window (shape_of sb) (final_shape sb) sb.size (is_backward sb) sb.reshape_position else None

-- ---- the slots

-- at most one event behind the newest
abbrev pub is_fresh : Sb → Sb → Bool
is_fresh newest sb = nat_le newest.events (sb.events + 1)

-- the role entry of a device number; faulty where the table ends before it
abbrev pub entry_of : Sb → ℕ → ℕ
entry_of newest dev = if nat_lt dev newest.max_dev then slice_index_or newest.dev_roles dev 0xfffe else 0xfffe

abbrev pub holds_role : Sb → ℕ → Sb → Bool
holds_role newest role sb = is_fresh newest sb && (entry_of newest sb.dev_number == role)

-- the state of a role that a slot with this superblock holds
abbrev pub state_of : ℕ → Sb → Role
state_of slot sb = if is_recovering sb then Recovering slot else Whole slot

-- The role's holder, from this slot on: the first fresh slot whose device number has that role.
abbrev pub holder_from : Sb → ℕ → ℕ → List (Option Sb) → Role
holder_from newest role slot [] = Missing
holder_from newest role slot (None ∷ own) = holder_from newest role (slot + 1) own
holder_from newest role slot (Some sb ∷ own) =
    if holds_role newest role sb then state_of slot sb else holder_from newest role (slot + 1) own

-- the array's data lies within a slot of so many sectors, behind the superblock
abbrev pub lies_within : Sb → ℕ → Sb → Bool
lies_within newest slot_length sb = nat_le 10 sb.data_offset && nat_le (sb.data_offset + newest.size) slot_length

abbrev pub is_spare : Sb → ℕ → Sb → Bool
is_spare newest slot_length sb =
    is_fresh newest sb && not (is_recovering sb) && nat_lt sb.dev_number 128 && (entry_of newest sb.dev_number == 0xffff)
    && lies_within newest slot_length sb

-- the spares from this slot on, where each slot has so many sectors
abbrev pub spares_from : Sb → (ℕ → ℕ) → ℕ → List (Option Sb) → List ℕ
spares_from newest sectors slot [] = []
spares_from newest sectors slot (None ∷ own) = spares_from newest sectors (slot + 1) own
spares_from newest sectors slot (Some sb ∷ own) =
    if is_spare newest (sectors slot) sb then slot ∷ spares_from newest sectors (slot + 1) own
    else spares_from newest sectors (slot + 1) own

-- ---- the reading

-- The newest superblock, each slot's own one, the state of each role, and the spares.
pub record Reading : Type 0 where
  pub newest : Sb
  pub own : List (Option Sb)
  pub roles : List Role
  pub spares : List ℕ

abbrev pub reading_by : (ℕ → ℕ) → List (Option Sb) → Sb → Reading
reading_by sectors own newest = record {
  newest = newest;
  own = own;
  roles = tabulate (role_count newest) (λ role. holder_from newest role 0 own);
  spares = spares_from newest sectors 0 own;
}

-- what these superblocks of the slots say; nothing where there is none
abbrev pub reading_of : (ℕ → ℕ) → List (Option Sb) → Option Reading
reading_of sectors own = option_map (reading_by sectors own) (newest_of own)

-- what the superblocks in this scope say
unfoldable pub reading : Scope → Contents → Option Reading
reading scope c = reading_of scope.sizes.sectors (superblocks scope c)

abbrev pub role_state : Reading → ℕ → Role
role_state r role = slice_index_or r.roles role Missing

abbrev pub own_of : Reading → ℕ → Option Sb
own_of r slot = slice_index_or r.own slot None

abbrev pub holder : Role → Option ℕ
holder (Whole slot) = Some slot
holder (Recovering slot) = Some slot
holder Missing = None

abbrev pub is_whole : Role → Bool
is_whole (Whole slot) = true
is_whole (Recovering slot) = false
is_whole Missing = false

-- How many rows a role's holder has: all of a whole one, the first ones of a recovering one, and none of that while
-- a reshape is active.
abbrev pub rows_held : Reading → Role → ℕ
rows_held r (Whole slot) = r.newest.size
rows_held r (Recovering slot) =
    if is_reshaping r.newest then 0 else option_map_or (λ sb. sb.recovery_offset) (own_of r slot) 0
rows_held r Missing = 0

abbrev pub data_offset_of : Reading → ℕ → ℕ
data_offset_of r slot = option_map_or (λ sb. sb.data_offset) (own_of r slot) 0
