-- When the superblocks of an image say the same as others.
use Rattle.std.specs.Prelude.{◌≡◌, ◌≢◌, ℕ, ◌<◌, ◌≤◌, Bool, true, false, ◌==◌, List, [], ◌∷◌, length, slice_index_or, Option, Some, None, if◌then◌else◌}
use Rattle.std.specs.List.{list_any}
use Rattle.bank.specs.raid_types_the_Role.{Role}
use Rattle.reshape_geometry.specs.raid_types_the_Refusal.{Refusal}
use Rattle.reshape_geometry.specs.raid_types_Shapes.{has_slot}
use Rattle.sb_codec.specs.declared.sb.Sb.{Sb}
use Rattle.sb_codec.specs.Features.{refused_bits}
use Rattle.bank.specs.Tape.{Contents}
use Rattle.sb_specs.specs.Reading.{Scope, Reading, reading, is_reshaping, is_recovering, is_backward, is_fresh, entry_of, holds_role, state_of, is_spare, lies_within, holder, role_state, own_of}
use Rattle.sb_specs.specs.Verdict.{members_refusal, members_missing, dirty_degraded, off_unit, first_of_all, bad_field, is_holder, is_role}

-- they say the same of the array and of its reshape
pub record SaysSame (a b : Sb) : Type 0 where
  pub level : a.level ≡ b.level
  pub layout : a.layout ≡ b.layout
  pub size : a.size ≡ b.size
  pub chunksize : a.chunksize ≡ b.chunksize
  pub raid_disks : a.raid_disks ≡ b.raid_disks
  pub new_level : a.new_level ≡ b.new_level
  pub reshape_position : a.reshape_position ≡ b.reshape_position
  pub delta_disks : a.delta_disks ≡ b.delta_disks
  pub new_layout : a.new_layout ≡ b.new_layout
  pub new_chunk : a.new_chunk ≡ b.new_chunk
  pub resync_offset : a.resync_offset ≡ b.resync_offset
  pub reshaping : is_reshaping a ≡ is_reshaping b
  pub backward : is_backward a ≡ is_backward b

-- no device number from 128 on has a role
abbrev pub HasNoLateRoles : Sb → Type 0
HasNoLateRoles sb = (dev : ℕ) → 128 ≤ dev → is_role (entry_of sb dev) ≡ false

-- as the newest, the other says the same: of the array, and of the devices below 128
pub record IsNewestLike (newest sb : Sb) : Type 0 where
  pub array : SaysSame newest sb
  pub entries : (dev : ℕ) → dev < 128 → entry_of newest dev ≡ entry_of sb dev
  pub late : HasNoLateRoles sb

-- the fields of the device that count are the same: its data offset, and the recovery offset of one that recovers
pub record HaveSameDevice (a b : Option Sb) : Type 0 where
  pub start : (x y : Sb) → a ≡ Some x → b ≡ Some y → x.data_offset ≡ y.data_offset
  pub recovery : (x y : Sb) → a ≡ Some x → b ≡ Some y → is_recovering y ≡ true → x.recovery_offset ≡ y.recovery_offset

-- what the roles are refused for
abbrev pub roles_refusal : Sb → List Role → Option Refusal
roles_refusal newest roles = first_of_all (members_missing newest roles ∷ dirty_degraded newest roles ∷ off_unit newest ∷ [])

abbrev pub has_spare : List ℕ → ℕ → Bool
has_spare spares slot = list_any (λ spare. spare == slot) spares

-- One reading says what the other does: of the array, of the roles and their holders, and of the spares among the slots
-- that weren't lost. It is refused for the roles alone.
pub record IsSameReading (sectors : ℕ → ℕ) (lost : ℕ) (q r : Reading) : Type 0 where
  pub array : SaysSame q.newest r.newest
  pub roles : r.roles ≡ q.roles
  pub spares : (slot : ℕ) → has_slot lost slot ≡ false → has_spare r.spares slot ≡ has_spare q.spares slot
  pub devices : (role slot : ℕ) → holder (role_state q role) ≡ Some slot → HaveSameDevice (own_of r slot) (own_of q slot)
  pub refusal : members_refusal sectors r ≡ roles_refusal q.newest q.roles

-- the contents read so
pub record IsReadAs (scope : Scope) (lost : ℕ) (q : Reading) (c : Contents) : Type 0 where
  pub found : Reading
  pub is : reading scope c ≡ Some found
  pub same : IsSameReading scope.sizes.sectors lost q found

-- ---- the superblocks of which such a reading is made

-- the state of a role by this slot's superblock, if it holds it
abbrev pub held_in : Sb → ℕ → ℕ → Option Sb → Option Role
held_in newest role slot None = None
held_in newest role slot (Some sb) = if holds_role newest role sb then Some (state_of slot sb) else None

abbrev pub spare_in : Sb → ℕ → Option Sb → Bool
spare_in newest slot_length None = false
spare_in newest slot_length (Some sb) = is_spare newest slot_length sb

-- A superblock beside this newest one: not newer, and where it is fresh, nothing in it is refused.
pub record IsSuited (newest : Sb) (slot_length : ℕ) (sb : Sb) : Type 0 where
  pub events : sb.events ≤ newest.events
  pub bits : is_fresh newest sb ≡ true → refused_bits sb.feature_map ≡ 0
  pub room : is_fresh newest sb ≡ true → 128 ≤ sb.max_dev
  pub within : is_fresh newest sb ≡ true → is_holder newest sb ≡ true → lies_within newest slot_length sb ≡ true
  pub late : is_fresh newest sb ≡ true → HasNoLateRoles sb

-- two slots that by this newest one have the same part in the array
pub record HaveSamePart (newest : Sb) (slot_length lost slot : ℕ) (x y : Option Sb) : Type 0 where
  pub role : (role : ℕ) → role < 16 → held_in newest role slot x ≡ held_in newest role slot y
  pub spare : has_slot lost slot ≡ false → spare_in newest slot_length x ≡ spare_in newest slot_length y
  pub device : (role : ℕ) (state : Role) → held_in newest role slot y ≡ Some state → HaveSameDevice x y

-- a newest superblock in which no field is refused
pub record IsSound (newest : Sb) : Type 0 where
  pub fields : bad_field newest [] ≡ None
  pub room : 128 ≤ newest.max_dev
  pub late : HasNoLateRoles newest

-- These superblocks read like those: some is as new as the newest, and the first that is says the same. Each fits it, each slot has the
-- same part, and no two fresh slots have one device number.
pub record AreReadLike (sectors : ℕ → ℕ) (lost : ℕ) (newest : Sb) (these those : List (Option Sb)) : Type 0 where
  pub long : length these ≡ length those
  pub top : (slot : ℕ) × (sb : Sb) × (slice_index_or these slot None ≡ Some sb) × (sb.events ≡ newest.events)
  pub first : (slot : ℕ) (sb : Sb) → slice_index_or these slot None ≡ Some sb → sb.events ≡ newest.events
      → ((s : ℕ) (b : Sb) → s < slot → slice_index_or these s None ≡ Some b → b.events ≢ newest.events) → IsNewestLike newest sb
  pub suited : (slot : ℕ) (sb : Sb) → slice_index_or these slot None ≡ Some sb → IsSuited newest (sectors slot) sb
  pub part : (slot : ℕ) → HaveSamePart newest (sectors slot) lost slot (slice_index_or these slot None) (slice_index_or those slot None)
  pub apart : (s t : ℕ) (a b : Sb) → s ≢ t → slice_index_or these s None ≡ Some a → slice_index_or these t None ≡ Some b
      → is_fresh newest a ≡ true → is_fresh newest b ≡ true → a.dev_number ≢ b.dev_number
