-- A takeover: level 5 is read as level 6 over it, whose last role, Q, holds no row yet; or the other way, where Q is dropped.
use Rattle.std.specs.Prelude.{◌≡◌, ◌⊎◌, ◌+◌, true, false, IsTrue}
use Rattle.crash_safety_laws.specs.raid_types_the_Shape.{Shape}
use Rattle.crash_safety_laws.specs.raid_types_Shapes.{is_valid_shape}
use Rattle.crash_safety_laws.specs.bank_Given.{Given}
use Rattle.crash_safety_laws.specs.bank_Tape.{Contents}
use Rattle.crash_safety_laws.specs.reshape_plan_Plans.{taken_up}
use Rattle.crash_safety_laws.specs.sb_specs_the_Members.{Members}
use Rattle.crash_safety_laws.specs.sb_specs_Reading.{Scope, is_reshaping, shape_of}
use Rattle.crash_safety_laws.specs.stripe_row_Rows.{reading_of, is_missing}
use Rattle.crash_safety_laws.specs.crash_views_Regions.{ArePlaced}
use Rattle.crash_safety_laws.specs.crash_views_Views.{Disk, Ledger, IsViewRight, IsSeenRight}
use Rattle.crash_safety_laws.specs.crash_views_Windows.{IsSomewhere, IsUpdating}
use Rattle.crash_safety_laws.specs.Updates.{IsReadInUpdate}
use Rattle.crash_reshape_laws.specs.Ends.{IsPlacedAs, AreRolesKept, AreMissingKept, ArePlacesAlike, IsToldWith}

-- The two shapes place each sector alike, and their data and P are full alike.
abbrev pub TakenUpIsPlacedAlike : Type 0
TakenUpIsPlacedAlike = (five : Shape) → IsTrue (is_valid_shape five) → IsTrue (is_valid_shape (taken_up five)) → five.level ≡ 5 → IsPlacedAs five (taken_up five) × IsPlacedAs (taken_up five) five

-- The plan has level 6 over the members' level 5. Of the former roles it has what there was; the last one, Q, holds no row: a slot recovers it, or it is missing.
pub record IsTakenUp (m plan : Members) : Type 0 where
  pub still : is_reshaping m.newest ≡ false
  pub still_too : is_reshaping plan.newest ≡ false
  pub five : (shape_of m.newest).level ≡ 5
  pub shape : shape_of plan.newest ≡ taken_up (shape_of m.newest)
  pub size : plan.newest.size ≡ m.newest.size
  pub clean : plan.newest.resync_offset ≡ m.newest.resync_offset
  pub kept : AreRolesKept m plan (shape_of m.newest).disks ((shape_of m.newest).disks + 1)
  pub missing : AreMissingKept m plan (shape_of m.newest).disks
  pub last : is_missing (reading_of plan) (shape_of m.newest).disks ≡ true

-- The plan has level 5, over which the members have level 6. Of its roles it has what there was; the last one is dropped.
pub record IsTakenDown (m plan : Members) : Type 0 where
  pub still : is_reshaping m.newest ≡ false
  pub still_too : is_reshaping plan.newest ≡ false
  pub five : (shape_of plan.newest).level ≡ 5
  pub shape : shape_of m.newest ≡ taken_up (shape_of plan.newest)
  pub size : plan.newest.size ≡ m.newest.size
  pub clean : plan.newest.resync_offset ≡ m.newest.resync_offset
  pub kept : AreRolesKept m plan ((shape_of plan.newest).disks + 1) (shape_of plan.newest).disks
  pub missing : AreMissingKept m plan (shape_of plan.newest).disks

abbrev pub TakeoversPlaceAlike : Type 0
TakeoversPlaceAlike = (scope : Scope) (given : Given) (m plan : Members) → ArePlaced scope given m → ArePlaced scope given plan → IsTakenUp m plan ⊎ IsTakenDown m plan → ArePlacesAlike m plan

-- So the planned view is right.
abbrev pub TakeoversAreRight : (sound : Type 0) → Type 0
TakeoversAreRight sound = (scope : Scope) (given : Given) (before after : Ledger) (m plan : Members) (d : Disk) → IsTakenUp m plan ⊎ IsTakenDown m plan → ArePlaced scope given plan
    → IsToldWith before after plan → IsViewRight sound scope given before m d → IsViewRight sound scope given after plan d

-- And each image in the update is seen right.
abbrev pub TakeoversAreSeenRight : (sound : Type 0) → Type 0
TakeoversAreSeenRight sound = (scope : Scope) (given : Given) (before after : Ledger) (m plan : Members) (d e : Disk) (c : Contents) → IsTakenUp m plan ⊎ IsTakenDown m plan → ArePlaced scope given plan
    → IsToldWith before after plan → IsSomewhere d → IsUpdating scope d e → IsViewRight sound scope given before m d → IsReadInUpdate scope given before after m plan c
    → IsSeenRight sound scope given before e c ⊎ IsSeenRight sound scope given after e c
