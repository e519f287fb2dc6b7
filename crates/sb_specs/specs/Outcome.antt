-- What an update leaves of the members.
use Rattle.std.specs.Prelude.{◌≡◌, ◌<◌, ℕ, zero, suc, ◌^◌, Bool, true, false, not, ◌&&◌, ◌||◌, ◌==◌, if◌then◌else◌, List, [], ◌∷◌, ◌++◌, length, take, slice_index_or, slice_set, bit_or, Option, Some, None}
use Rattle.std.specs.Option.{option_map_or}
use Rattle.bank.specs.raid_types_the_Role.{Role}
use Rattle.bank.specs.raid_types_the_Role_TheVariants.{Whole, Recovering, Missing}
use Rattle.reshape_geometry.specs.raid_types_Search.{tabulate, least_below}
use Rattle.bank.specs.raid_types_Sectors.{Sector}
use Rattle.reshape_geometry.specs.raid_types_Shapes.{has_slot}
use Rattle.sb_codec.specs.declared.sb.Sb.{Sb}
use Rattle.sb_codec.specs.Superblock.{sb_of, checksum, is_valid}
use Rattle.sb_codec.specs.Writable.{IsWritable}
use Rattle.bank.specs.Given.{Given, IsPlace}
use Rattle.sb_specs.specs.declared.change.Give.{Give}
use Rattle.sb_specs.specs.declared.change.Give.TheVariants.{Same, Spare}
use Rattle.sb_specs.specs.declared.change.Give.TheVariants as give
use Rattle.sb_specs.specs.declared.change.Change.{Change}
use Rattle.sb_specs.specs.declared.members.Members.{Members}
use Rattle.sb_specs.specs.Reading.{role_count}
use Rattle.sb_specs.specs.Update.{planned, is_live, is_added, planned_role, is_planned_spare, give_of, own_in}
use Rattle.sb_specs.specs.Writing.{IsMember}

-- the set of the slots below n that pass
unfoldable pub set_of : ℕ → (ℕ → Bool) → ℕ
set_of zero test = 0
set_of (suc n) test = if test n then bit_or (set_of n test) (2 ^ n) else set_of n test

-- the slots below n that pass, in order
unfoldable pub slots_below : ℕ → (ℕ → Bool) → List ℕ
slots_below zero test = []
slots_below (suc n) test = slots_below n test ++ (if test n then n ∷ [] else [])

-- ---- before the first write

-- The members with the slot that is made a spare: it has its superblock, which isn't behind, and isn't lost any more.
abbrev pub with_added : Members → Option (ℕ × Sb) → Members
with_added members None = members
with_added members (Some added) = record members {
  own = slice_set members.own added.0 (Some (record added.1 { events = members.newest.events }));
  lost = set_of 32 (λ slot. has_slot members.lost slot && not (added.0 == slot));
}

-- the slot holds a role, is a spare or is made one
abbrev pub is_in_update : Members → Change → ℕ → Bool
is_in_update members change slot = is_live members.roles members.spares slot || is_added change.added slot

-- the set of these slots
abbrev pub live_set : Members → Change → ℕ
live_set members change = set_of 32 (is_in_update members change)

-- a slot with room for a superblock, and the one that it is to have
pub record IsAddable (given : Given) (added : ℕ × Sb) : Type 0 where
  pub slot : added.0 < 32
  pub place : IsPlace given added.0 8 512
  pub writable : IsWritable added.1

-- each slot that holds a role or is a spare has a superblock that can be written again
abbrev pub AreLive : Given → Members → Type 0
AreLive given members = (slot : ℕ) → is_live members.roles members.spares slot ≡ true → IsMember given (own_in members.own slot) slot

-- it gives live slots alone something else than they had
abbrev pub AreGivesOfLive : Members → Change → Type 0
AreGivesOfLive members change = (slot : ℕ) → is_in_update members change slot ≡ false → give_of change.gives slot ≡ Same

-- ---- after the last write

-- a slot's superblock as it was stored: with the checksum of its two sectors
pub record IsStored (sb : Sb) (stored : Option Sb) : Type 0 where
  pub bytes : List ℕ
  pub long : length bytes ≡ 1024
  pub small : (i : ℕ) → slice_index_or bytes i 0 < 256
  pub valid : is_valid bytes ≡ true
  pub fields : sb_of bytes ≡ record sb { sb_csum = checksum bytes }
  pub own : stored ≡ Some (sb_of bytes)

-- a live slot that wasn't lost has what was planned for it
abbrev pub IsPlannedOwn : Sb → Give → Option Sb → Option Sb → Type 0
IsPlannedOwn newest given None new = ⊥
IsPlannedOwn newest given (Some own) new = IsStored (planned newest given own) new

-- the slots of a set have what was planned, and the others what they had
pub record AreStored (newest : Sb) (gives : List Give) (kept : ℕ → Bool) (old new : List (Option Sb)) : Type 0 where
  pub written : (slot : ℕ) → kept slot ≡ true → IsPlannedOwn newest (give_of gives slot) (own_in old slot) (own_in new slot)
  pub others : (slot : ℕ) → kept slot ≡ false → own_in new slot ≡ own_in old slot

-- A slot has the first of the two sectors of this superblock, and nothing else there.
pub record IsHeld (stored : Option Sb) (values : List Sector) : Type 0 where
  pub bytes : List ℕ
  pub long : length bytes ≡ 1024
  pub small : (i : ℕ) → slice_index_or bytes i 0 < 256
  pub valid : is_valid bytes ≡ true
  pub own : stored ≡ Some (sb_of bytes)
  pub alone : values ≡ take 512 bytes ∷ []

-- the slot was live in the update and isn't lost
abbrev pub is_left : ℕ → ℕ → ℕ → Bool
is_left live lost slot = has_slot live slot && not (has_slot lost slot)

-- each slot that is left holds what the members have for it
abbrev pub AreHeld : (ℕ → Bool) → List (Option Sb) → (ℕ → ℕ → List Sector) → Type 0
AreHeld left own e = (slot : ℕ) → left slot ≡ true → IsHeld (own_in own slot) (e slot 8)

abbrev pub is_same : ℕ → Option ℕ → Bool
is_same role None = false
is_same role (Some other) = other == role

-- the slot holds this role after the update
abbrev pub is_planned_holder : List Role → List Give → ℕ → ℕ → ℕ → Bool
is_planned_holder roles gives lost role slot = not (has_slot lost slot) && is_same role (planned_role roles (give_of gives slot) slot)

-- the state of the role that it holds: the former one, or as it was given
abbrev pub held_state : Role → Give → ℕ → Role
held_state former Same slot = former
held_state former (give.Role role (Some offset)) slot = Recovering slot
held_state former (give.Role role None) slot = Whole slot
held_state former Spare slot = Missing

-- the state of a role after the update: that of the first slot that holds it
abbrev pub planned_state : List Role → List Give → ℕ → ℕ → Role
planned_state roles gives lost role =
    option_map_or (λ slot. held_state (slice_index_or roles role Missing) (give_of gives slot) slot)
    (least_below 32 (is_planned_holder roles gives lost role)) Missing

-- the roles after the update, as many as the shapes that it plans have
abbrev pub planned_roles : Members → Change → ℕ → List Role
planned_roles members change lost = tabulate (role_count change.shared) (planned_state members.roles change.gives lost)

-- the spares after the update, without the lost ones
abbrev pub planned_spares : Members → Change → ℕ → List ℕ
planned_spares members change lost =
    slots_below 32 (λ slot. not (has_slot lost slot) && is_planned_spare members.spares change.added (give_of change.gives slot) slot)
