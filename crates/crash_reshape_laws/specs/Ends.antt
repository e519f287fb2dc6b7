-- The updates that change the shape: a reshape begins or ends, or a level is taken over. What the plan of each has to keep, so that its view is right.
use Rattle.std.specs.Prelude.{◌≡◌, ◌⊎◌, ℕ, ◌+◌, ◌<◌, ◌≤◌, ◌&&◌, true, false, List, [], ◌∷◌, Some, None}
use Rattle.crash_safety_laws.specs.raid_types_the_Shape.{Shape}
use Rattle.crash_safety_laws.specs.raid_types_the_Span.{Span}
use Rattle.crash_safety_laws.specs.raid_types_Sectors.{Sector, zero_sector}
use Rattle.crash_safety_laws.specs.bank_Given.{Given}
use Rattle.crash_safety_laws.specs.bank_Tape.{Contents, IsIn}
use Rattle.crash_safety_laws.specs.raid_layout_Layout.{place}
use Rattle.crash_safety_laws.specs.reshape_geometry_Geometry.{rows}
use Rattle.crash_safety_laws.specs.sb_specs_the_Members.{Members}
use Rattle.crash_safety_laws.specs.sb_specs_Reading.{Scope, is_reshaping, is_backward, shape_of, final_shape, list_length, data_offset_of}
use Rattle.crash_safety_laws.specs.stripe_row_Rows.{reading_of, is_missing, held_slot}
use Rattle.crash_safety_laws.specs.stripe_list_Full.{full_sector, AreWholeIn}
use Rattle.crash_safety_laws.specs.bank_backup_Section.{is_header_of, names_span}
use Rattle.crash_safety_laws.specs.history_the_Event_TheVariants.{Resized}
use Rattle.crash_safety_laws.specs.history_Flat.{values_after}
use Rattle.crash_safety_laws.specs.history_Stands.{shape_for}
use Rattle.crash_safety_laws.specs.crash_views_Regions.{ArePlaced, DoWithout}
use Rattle.crash_safety_laws.specs.crash_views_Views.{Disk, Ledger, AreHeadersFit, IsTail, AreTailsZero, IsViewRight, IsSeenRight}
use Rattle.crash_safety_laws.specs.crash_views_Windows.{IsSomewhere, HasNoSection, IsUpdating, ListStands, RowsStand}
use Rattle.crash_safety_laws.specs.Updates.{IsReadInUpdate, IsAtStart, IsAtEnd}
use Rattle.crash_safety_laws.specs.Steady.{AreGoneTold}

-- ---- places that are alike

-- One shape places each sector as another does, and a role that both have is full alike: its data, and P.
pub record IsPlacedAs (old new : Shape) : Type 0 where
  pub places : (x : ℕ) → place new x ≡ place old x
  pub full : (list : ℕ → Sector) (row role : ℕ) → AreWholeIn old list row → role < old.disks → role < new.disks → full_sector new list row role ≡ full_sector old list row role

-- what a slot holds of a row by the plan it held before, as one of these roles
pub record IsKeptSlot (m plan : Members) (disks role row slot : ℕ) : Type 0 where
  pub within : role < disks
  pub held : held_slot (reading_of m) role row ≡ Some slot
  pub offset : data_offset_of (reading_of plan) slot ≡ data_offset_of (reading_of m) slot

-- of so many roles of the plan each holds only what one of so many roles held before
abbrev pub AreRolesKept : Members → Members → ℕ → ℕ → Type 0
AreRolesKept m plan disks planned = (role row slot : ℕ) → role < planned → held_slot (reading_of plan) role row ≡ Some slot → IsKeptSlot m plan disks role row slot

-- and of these roles the plan misses those that were missing
abbrev pub AreMissingKept : Members → Members → ℕ → Type 0
AreMissingKept m plan disks = (role : ℕ) → role < disks → is_missing (reading_of m) role ≡ true → is_missing (reading_of plan) role ≡ true

-- Each sector of the list is placed by the plan as before, whatever other roles the plan has.
pub record ArePlacesAlike (m plan : Members) : Type 0 where
  pub within : list_length plan.newest ≤ list_length m.newest
  pub shapes : (x : ℕ) → x < list_length plan.newest → IsPlacedAs (shape_for m.newest x) (shape_for plan.newest x)
  pub kept : (x : ℕ) → x < list_length plan.newest → AreRolesKept m plan (shape_for m.newest x).disks (shape_for plan.newest x).disks

abbrev pub PlacesAlikeStand : Type 0
PlacesAlikeStand = (scope : Scope) (given : Given) (m plan : Members) (c : Contents) (list : ℕ → Sector) → ArePlaced scope given plan → ArePlacesAlike m plan
    → (ListStands None m c list → ListStands None plan c list) × (RowsStand None m c list → RowsStand None plan c list)

-- What is told with a plan: of each sector that both lists have the same values, and perhaps more; the roles that the plan misses; a dirty mark; and a reshape.
pub record IsToldWith (before after : Ledger) (plan : Members) : Type 0 where
  pub sized : list_length plan.newest ≡ after.size
  pub gone : AreGoneTold after plan
  pub unclean : before.unclean ≡ true → after.unclean ≡ true
  pub reshaping : is_reshaping plan.newest ≡ true → after.reshaping ≡ true
  pub values : (x : ℕ) (v : Sector) → x < before.size → x < after.size → IsIn (before.values x) v → IsIn (after.values x) v

-- A change of the length tells so: each sector that the list keeps has the values that it had, and one that it gets is zero.
abbrev pub ResizedTells : Type 0
ResizedTells = (n x : ℕ) (values : List Sector) → x < n
    → ((v : Sector) → IsIn values v → IsIn (values_after x values (Resized n)) v) × (values ≡ [] → values_after x values (Resized n) ≡ zero_sector ∷ [])

-- A plan that places all alike, where no section is active before it or in it; a reshape that it begins has fitting headers, and no tail yet.
pub record IsAlikePlan (scope : Scope) (given : Given) (before after : Ledger) (m plan : Members) (d : Disk) : Type 0 where
  pub alike : ArePlacesAlike m plan
  pub placed : ArePlaced scope given plan
  pub told : IsToldWith before after plan
  pub clean : plan.newest.resync_offset ≡ m.newest.resync_offset
  pub former : HasNoSection scope m d
  pub plain : HasNoSection scope plan d
  pub without : DoWithout plan → DoWithout m
  pub headers : is_reshaping plan.newest ≡ true → AreHeadersFit scope plan d
  pub tails : (x : ℕ) → IsTail plan.newest x → ⊥

abbrev pub AlikePlansAreRight : (sound : Type 0) → Type 0
AlikePlansAreRight sound = (scope : Scope) (given : Given) (before after : Ledger) (m plan : Members) (d : Disk) → IsAlikePlan scope given before after m plan d
    → IsViewRight sound scope given before m d → IsViewRight sound scope given after plan d

-- ---- a reshape begins

-- the backup's header names no section of the array
abbrev pub IsCleared : Scope → Disk → Type 0
IsCleared scope d = (backup : ℕ) (header : Sector) → scope.backup ≡ Some backup → IsIn (d backup 0) header → (span : Span) → (is_header_of scope.uuid header && names_span header span) ≡ false

-- Such a header has no section that is active, and fits.
abbrev pub ClearedIsPlain : Type 0
ClearedIsPlain = (scope : Scope) (m : Members) (d : Disk) → IsCleared scope d
    → HasNoSection scope m d × AreHeadersFit scope m d

-- The plan has the shape in force as its old one, stands at its first position, and has of the old shape's roles what there was.
pub record IsBegun (m plan : Members) : Type 0 where
  pub still : is_reshaping m.newest ≡ false
  pub active : is_reshaping plan.newest ≡ true
  pub shape : shape_of plan.newest ≡ shape_of m.newest
  pub size : plan.newest.size ≡ m.newest.size
  pub clean : plan.newest.resync_offset ≡ m.newest.resync_offset
  pub start : IsAtStart plan.newest
  pub kept : AreRolesKept m plan (shape_of m.newest).disks (shape_of m.newest).disks
  pub missing : AreMissingKept m plan (shape_of m.newest).disks

abbrev pub BegunIsPlacedAlike : Type 0
BegunIsPlacedAlike = (m plan : Members) → IsBegun m plan → ArePlacesAlike m plan

-- Behind a cleared header the planned view is right.
abbrev pub BeginsAreRight : (sound : Type 0) → Type 0
BeginsAreRight sound = (scope : Scope) (given : Given) (before after : Ledger) (m plan : Members) (d : Disk) → IsBegun m plan → ArePlaced scope given plan → IsToldWith before after plan
    → IsCleared scope d → IsViewRight sound scope given before m d → IsViewRight sound scope given after plan d

-- And each image in the update is seen right.
abbrev pub BeginsAreSeenRight : (sound : Type 0) → Type 0
BeginsAreSeenRight sound = (scope : Scope) (given : Given) (before after : Ledger) (m plan : Members) (d e : Disk) (c : Contents) → IsBegun m plan → ArePlaced scope given plan → IsToldWith before after plan
    → IsCleared scope d → IsSomewhere d → IsUpdating scope d e → IsViewRight sound scope given before m d → IsReadInUpdate scope given before after m plan c
    → IsSeenRight sound scope given before e c ⊎ IsSeenRight sound scope given after e c

-- ---- a reshape ends

-- The plan has the new shape alone, once the reshape has gone through the list, and has of that shape's roles what there was.
pub record IsEnded (m plan : Members) : Type 0 where
  pub active : is_reshaping m.newest ≡ true
  pub still : is_reshaping plan.newest ≡ false
  pub shape : shape_of plan.newest ≡ final_shape m.newest
  pub size : plan.newest.size ≡ m.newest.size
  pub clean : plan.newest.resync_offset ≡ m.newest.resync_offset
  pub last : IsAtEnd m.newest
  pub kept : AreRolesKept m plan (final_shape m.newest).disks (final_shape m.newest).disks
  pub missing : AreMissingKept m plan (final_shape m.newest).disks
  pub without : DoWithout plan → DoWithout m

-- each role that a slot holds of a row past those of the list has there what belongs to zeros
abbrev pub AreZeroed : Members → Disk → Type 0
AreZeroed m d = (role row slot : ℕ) → role < (final_shape m.newest).disks → (rows (final_shape m.newest) 0 (list_length m.newest)).hi ≤ row → held_slot (reading_of m) role row ≡ Some slot
    → (v : Sector) → IsIn (d slot (data_offset_of (reading_of m) slot + row)) v → v ≡ full_sector (final_shape m.newest) (λ x. zero_sector) row role

-- A forward reshape may have made the list longer: what it gets is zero, in the tail and in the rows past it.
pub record IsGrown (after : Ledger) (m plan : Members) (d : Disk) : Type 0 where
  pub forth : is_backward m.newest ≡ false
  pub tails : AreTailsZero m d
  pub zeroed : AreZeroed m d
  pub zeros : (x : ℕ) → list_length m.newest ≤ x → x < list_length plan.newest → IsIn (after.values x) zero_sector

-- So the planned view is right.
abbrev pub EndsAreRight : (sound : Type 0) → Type 0
EndsAreRight sound = (scope : Scope) (given : Given) (before after : Ledger) (m plan : Members) (d : Disk) → IsEnded m plan → ArePlaced scope given plan → IsToldWith before after plan
    → (is_backward m.newest ≡ true) ⊎ IsGrown after m plan d → IsViewRight sound scope given before m d → IsViewRight sound scope given after plan d

abbrev pub EndsAreSeenRight : (sound : Type 0) → Type 0
EndsAreSeenRight sound = (scope : Scope) (given : Given) (before after : Ledger) (m plan : Members) (d e : Disk) (c : Contents) → IsEnded m plan → ArePlaced scope given plan → IsToldWith before after plan
    → (is_backward m.newest ≡ true) ⊎ IsGrown after m plan d → IsSomewhere d → IsUpdating scope d e
    → IsViewRight sound scope given before m d → IsReadInUpdate scope given before after m plan c
    → IsSeenRight sound scope given before e c ⊎ IsSeenRight sound scope given after e c
