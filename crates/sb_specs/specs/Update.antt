-- What an update of the superblocks plans for each slot.
use Rattle.std.specs.Prelude.{ℕ, zero, suc, ◌+◌, ◌-◌, ◌^◌, ◌<◌, Bool, true, false, not, ◌&&◌, ◌||◌, ◌==◌, nat_lt, if◌then◌else◌, max, List, [], ◌∷◌, ◌++◌, take, drop, map, slice_index_or, slice_set, bit_and, bit_or, Option, Some, None}
use Rattle.std.specs.List.{list_any}
use Rattle.bank.specs.raid_types_the_Role.{Role}
use Rattle.bank.specs.raid_types_the_Role_TheVariants.{Whole, Recovering, Missing}
use Rattle.reshape_geometry.specs.raid_types_Shapes.{has_slot}
use Rattle.sb_codec.specs.declared.sb.Sb.{Sb}
use Rattle.sb_specs.specs.declared.change.Give.{Give}
use Rattle.sb_specs.specs.declared.change.Give.TheVariants.{Same, Spare}
use Rattle.sb_specs.specs.declared.change.Give.TheVariants as give
use Rattle.sb_specs.specs.declared.change.Change.{Change}
use Rattle.sb_specs.specs.declared.members.Members.{Members}
use Rattle.sb_specs.specs.declared.change.Part.{Part}
use Rattle.sb_specs.specs.declared.change.Part.TheVariants.{Behind, Recoveries, Others, All}

-- ---- the superblock that a slot gets

-- A superblock with the fields of the array and of its reshape, and the clean mark, of another. Of the feature map
-- these are the bits 4, a reshape is active, and 32, it goes backwards.
abbrev pub with_shared : Sb → Sb → Sb
with_shared shared own = record own {
  feature_map = bit_or (bit_and own.feature_map (2 ^ 32 - 1 - (4 + 32))) (bit_and shared.feature_map (4 + 32));
  level = shared.level;
  layout = shared.layout;
  size = shared.size;
  chunksize = shared.chunksize;
  raid_disks = shared.raid_disks;
  bitmap_offset = shared.bitmap_offset;
  new_level = shared.new_level;
  reshape_position = shared.reshape_position;
  delta_disks = shared.delta_disks;
  new_layout = shared.new_layout;
  new_chunk = shared.new_chunk;
  new_offset = shared.new_offset;
  resync_offset = shared.resync_offset;
}

-- A slot that gets a role has bit 2 and the recovery offset, or neither.
abbrev pub with_recovery : Option ℕ → Sb → Sb
with_recovery (Some offset) sb = record sb { feature_map = bit_or sb.feature_map 2; recovery_offset = offset }
with_recovery None sb = record sb { feature_map = bit_and sb.feature_map (2 ^ 32 - 1 - 2); recovery_offset = 0 }

abbrev pub with_give : Give → Sb → Sb
with_give Same sb = sb
with_give (give.Role role recovery) sb = with_recovery recovery sb
with_give Spare sb = sb

-- What a slot gets: the newest's shared fields, event count and first 128 role entries; all else is its own.
abbrev pub planned : Sb → Give → Sb → Sb
planned newest given own = with_give given (record (with_shared newest own) {
  events = newest.events;
  dev_roles = take 128 newest.dev_roles ++ drop 128 own.dev_roles;
})

-- ---- who is live

abbrev pub is_held_by : ℕ → Role → Bool
is_held_by slot (Whole holder) = holder == slot
is_held_by slot (Recovering holder) = holder == slot
is_held_by slot Missing = false

-- the slot holds a role or is a spare
abbrev pub is_live : List Role → List ℕ → ℕ → Bool
is_live roles spares slot = list_any (is_held_by slot) roles || list_any (λ spare. spare == slot) spares

-- ---- the order: which slots a part of the update writes

abbrev pub is_recovery : Give → Bool
is_recovery Same = false
is_recovery (give.Role role (Some offset)) = true
is_recovery (give.Role role None) = false
is_recovery Spare = false

-- the slot's event count is behind the newest's
abbrev pub is_behind : Sb → Option Sb → Bool
is_behind newest None = false
is_behind newest (Some own) = nat_lt own.events newest.events

abbrev pub is_part : Part → Sb → Give → Option Sb → Bool
is_part Behind newest given own = is_behind newest own
is_part Recoveries newest given own = is_recovery given
is_part Others newest given own = not (is_recovery given)
is_part All newest given own = true

abbrev pub give_of : List Give → ℕ → Give
give_of gives slot = slice_index_or gives slot Same

abbrev pub own_in : List (Option Sb) → ℕ → Option Sb
own_in own slot = slice_index_or own slot None

-- a live slot that wasn't lost, in this part
abbrev pub is_due : Part → Sb → List Give → List (Option Sb) → ℕ → ℕ → ℕ → Bool
is_due part newest gives own live lost slot =
    has_slot live slot && not (has_slot lost slot) && is_part part newest (give_of gives slot) (own_in own slot)

-- ---- the role entries

-- the first role that the slot holds, of those from this one on
abbrev pub role_from : ℕ → ℕ → List Role → Option ℕ
role_from slot role [] = None
role_from slot role (state ∷ roles) = if is_held_by slot state then Some role else role_from slot (role + 1) roles

-- the slot that is made a spare
abbrev pub is_added : Option (ℕ × Sb) → ℕ → Bool
is_added None slot = false
is_added (Some added) slot = added.0 == slot

-- a role that it gets is below 16, as each array's are
abbrev pub IsRoleGive : Give → Type 0
IsRoleGive Same = Unit {0}
IsRoleGive (give.Role role recovery) = role < 16
IsRoleGive Spare = Unit {0}

-- the role that the slot has after the update
abbrev pub planned_role : List Role → Give → ℕ → Option ℕ
planned_role roles Same slot = role_from slot 0 roles
planned_role roles (give.Role role recovery) slot = Some role
planned_role roles Spare slot = None

-- it is a spare after the update
abbrev pub is_planned_spare : List ℕ → Option (ℕ × Sb) → Give → ℕ → Bool
is_planned_spare spares added Same slot = list_any (λ spare. spare == slot) spares || is_added added slot
is_planned_spare spares added (give.Role role recovery) slot = false
is_planned_spare spares added Spare slot = true

-- The entry of a slot's device: its role, that of a spare, or faulty where the slot was lost since; none else.
abbrev pub slot_entry : Bool → Bool → Option ℕ → Bool → Option ℕ
slot_entry true true role spare = None
slot_entry false true role spare = Some 0xfffe
slot_entry before false (Some role) spare = Some role
slot_entry before false None spare = if spare then Some 0xffff else None

-- which entry a slot gets, where these slots were lost before the update and those are lost now
abbrev pub entry_for : Members → Change → ℕ → ℕ → ℕ → Option ℕ
entry_for members change before lost slot =
    slot_entry (has_slot before slot) (has_slot lost slot)
    (planned_role members.roles (give_of change.gives slot) slot)
    (is_planned_spare members.spares change.added (give_of change.gives slot) slot)

-- the table with a device's entry
abbrev pub with_entry : Option ℕ → Option Sb → List ℕ → List ℕ
with_entry None own table = table
with_entry (Some entry) None table = table
with_entry (Some entry) (Some own) table = if nat_lt own.dev_number 128 then slice_set table own.dev_number entry else table

-- the entries of the devices in the first slots, in slot order
unfoldable pub with_entries : (ℕ → Option ℕ) → List (Option Sb) → ℕ → List ℕ → List ℕ
with_entries entries own zero table = table
with_entries entries own (suc n) table = with_entry (entries n) (own_in own n) (with_entries entries own n table)

-- a role becomes faulty; a spare and a faulty number stay
abbrev pub faulty_role : ℕ → ℕ
faulty_role entry = max entry 0xfffe

-- Each of the first 128 entries that was a role is faulty, and then each slot's device has its entry.
abbrev pub with_roles : Members → Change → ℕ → ℕ → List ℕ → List ℕ
with_roles members change before lost table =
    with_entries (entry_for members change before lost) members.own 32 (map faulty_role (take 128 table) ++ drop 128 table)
