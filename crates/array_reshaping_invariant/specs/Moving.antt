-- What an array keeps that is in a reshape, over plain data.
use Rattle.std.specs.Prelude.{◌≡◌, ◌⊎◌, ℕ, ◌<◌, ◌≤◌, ◌||◌, Bool, true, false, List, length, Option, IfSome, IsSome, is_some, None, ⊤}
use Rattle.history_invariant_laws.specs.raid_types_Sectors.{Sector}
use Rattle.history_invariant_laws.specs.raid_types_Shapes.{tolerance, tolerance_of}
use Rattle.history_invariant_laws.specs.raid_types_the_Span.{Span}
use Rattle.reshape_progress_resync_laws.specs.bank_the_Operation.{Operation}
use Rattle.reshape_progress_resync_laws.specs.bank_Given.{Given, sizes}
use Rattle.reshape_progress_resync_laws.specs.bank_Tape.{Contents, disk}
use Rattle.reshape_progress_resync_laws.specs.sb_specs_the_Members.{Members}
use Rattle.reshape_progress_resync_laws.specs.sb_specs_Reading.{Scope, is_reshaping, is_backward, is_clean, shape_of, list_length}
use Rattle.reshape_progress_resync_laws.specs.stripe_row_Rows.{present}
use Rattle.reshape_progress_resync_laws.specs.history_the_Entry.{Entry}
use Rattle.reshape_progress_resync_laws.specs.history_Epochs.{HasRoomForEvents}
use Rattle.reshape_progress_resync_laws.specs.history_Flat.{now}
use Rattle.reshape_progress_resync_laws.specs.history_Legal.{told_left, level_at}
use Rattle.reshape_progress_resync_laws.specs.history_Losses.{is_unsynced}
use Rattle.reshape_progress_resync_laws.specs.history_OneShape.{is_unsettled}
use Rattle.reshape_progress_resync_laws.specs.history_Sound.{OpensFit}
use Rattle.reshape_progress_resync_laws.specs.history_World.{World, opening_list}
use Rattle.reshape_progress_resync_laws.specs.crash_views_Regions.{ArePlaced, DoWithout, backup_of}
use Rattle.reshape_progress_resync_laws.specs.crash_views_Windows.{ListStands, RowsStand}
use Rattle.reshape_progress_resync_laws.specs.crash_safety_laws_Safety.{HasLiveSlot}
use Rattle.reshape_progress_resync_laws.specs.crash_safety_laws_Steady.{AreUnlost}
use Rattle.reshape_progress_resync_laws.specs.crash_reshape_laws_Grown.{IsZeroPast}
use Rattle.reshape_progress_resync_laws.specs.crash_reshape_laws_Plans.{HasNoneRecovering}
use Rattle.reshape_progress_resync_laws.specs.array_members_Placed.{IsPlaced}
use Rattle.reshape_progress_resync_laws.specs.array_members_Lacking.{DoesWithout}
use Rattle.reshape_progress_resync_laws.specs.array_members_Rebuilding.{AreSparesFree}
use Rattle.reshape_progress_resync_laws.specs.sb_safe_updates_Unused.{IsUnused}
use Rattle.history_invariant_laws.specs.history_invariant_Recorded.{IsHistoryKept}
use Rattle.history_invariant_laws.specs.history_invariant_Safe.{world_in, OpensOnCourse, IsFilledRight, IsSafeHistory}
use Rattle.history_invariant_laws.specs.Reliable.{IsReliable, AreToldGone, IsNonePast, HasLastStep}
use Rattle.reshape_progress_resync_laws.specs.reshape_progress_the_Course.{Course}
use Rattle.reshape_progress_resync_laws.specs.reshape_progress_Course.{IsCourseOf, IsStored}
use Rattle.reshape_progress_resync_laws.specs.stripe_region_resync_Resyncs.{resync_stripes}
use Rattle.reshape_progress_resync_laws.specs.stripe_region_write_Runs.{WindowRowsStand}
use Rattle.reshape_progress_resync_laws.specs.Mended.{IsAside, IsUnsynced, StandsSynced}

-- The members of an array in a reshape: each has its place, the backup has room for the sections, holds no role and is no spare, and no slot recovers a role.
pub record AreReshaping (scope : Scope) (given : Given) (members : Members) : Type 0 where
  pub placed : IsPlaced given members
  pub backed : ArePlaced scope given members
  pub aside : IsUnused members (backup_of scope)
  pub active : is_reshaping members.newest ≡ true
  pub whole : HasNoneRecovering members
  pub unlost : AreUnlost members
  pub free : AreSparesFree given members
  pub spares : length members.spares ≤ 32

-- The list of the history stands in the course of the reshape, by each shape that does without what is missing of it; of its rows those that a pending resync has mended.
pub record HasListInCourse (sound : Type 0) (members : Members) (resync : Option ℕ) (course : Course) (buffer : List ℕ) (c : Contents) (current : ℕ → Sector) : Type 0 where
  pub list : ℕ → Sector
  pub is : (x : ℕ) → x < list_length members.newest → list x ≡ current x
  pub stands : StandsSynced sound (λ shape. DoesWithout shape members) resync members course buffer c list

-- The rows of a window that was just recorded, if there is one, stand as the list of the history, which is zero behind its end in a forward reshape.
abbrev pub IsWindowStanding : Option Span → World → List Entry → Members → Contents → Type 0
IsWindowStanding window world entries m c = IsFilledRight world entries → (list : ℕ → Sector) → ((x : ℕ) → x < list_length m.newest → list x ≡ now (opening_list world) entries x)
    → (is_backward m.newest ≡ false → IsZeroPast (list_length m.newest) list) → WindowRowsStand window m c list

-- The list of the history stands on members without a reshape: it is zero behind its end, and where the epoch opened sound, its rows stand too.
pub record HasListStill (sound : Type 0) (members : Members) (c : Contents) (current : ℕ → Sector) : Type 0 where
  pub list : ℕ → Sector
  pub is : (x : ℕ) → x < list_length members.newest → list x ≡ current x
  pub zeros : IsZeroPast (list_length members.newest) list
  pub stands : ListStands None members c list
  pub rows : sound → RowsStand None members c list

-- No reshape is active in the array, though some may have been before. What is missing was told so, and a dirty mark; over a bank that tells its contents the
-- history is legal, reaches to the tape's end and tells nothing past the list's, the list stands where what is filled in is right, and each mark so far is safe. Superblocks may tell a
-- reshape still only where no live slot is left: its end was recorded in none then.
pub record IsStillKept (tells : Type 0) (given : Given) (tape : List Operation) (scope : Scope) (first : ℕ) (entries : List Entry) (members : Members) (carried : ℕ → ℕ → Bool) : Type 0 where
  pub slots : given.slots ≤ 32
  pub placed : IsPlaced given members
  pub still : is_reshaping members.newest ≡ false
  pub reshaping : Bool
  pub over : HasLiveSlot members → reshaping ≡ false
  pub sizes_are : scope.sizes ≡ sizes given
  pub levelled : tells → IsReliable (world_in given tape scope first) entries → tolerance_of (level_at (world_in given tape scope first) entries) ≡ tolerance (shape_of members.newest)
  pub gone : tells → IsReliable (world_in given tape scope first) entries → AreToldGone (world_in given tape scope first) entries members
  pub unclean : tells → is_clean members.newest ≡ false → (is_unsynced (world_in given tape scope first) entries || is_unsettled entries) ≡ true
  pub recorded : tells → IsHistoryKept (IsReliable (world_in given tape scope first) entries) (world_in given tape scope first) (list_length members.newest) entries
  pub past : tells → IsNonePast (world_in given tape scope first) entries (list_length members.newest)
  pub listed : tells → DoWithout members → IsFilledRight (world_in given tape scope first) entries
      → HasListStill (OpensFit (world_in given tape scope first)) members (present given tape) (now (opening_list (world_in given tape scope first)) entries)
  pub safe : tells → IsFilledRight (world_in given tape scope first) entries → HasRoomForEvents (world_in given tape scope first)
      → IsSafeHistory ⊤ (world_in given tape scope first) given members carried reshaping entries

-- A reshape is active in the array, and this is how far it has come; a resync may be pending, beside whose mended stripes no window is open; so many steps are left. What is
-- missing was told so, and a dirty mark, and a pending resync; over a bank that
-- tells its contents the history is legal and reaches to the tape's end, as its last step does, and tells nothing past the list's end. If the opening found no reshape, or
-- one on its course, the backup's headers say how far the window has come; where what is filled in is right the list stands, by each shape that does without what is
-- missing of it, and each mark so far is safe.
pub record IsMoving (tells : Type 0) (given : Given) (tape : List Operation) (scope : Scope) (first : ℕ) (entries : List Entry)
    (members : Members) (carried : ℕ → ℕ → Bool) (resync : Option ℕ) (course : Course) (buffer : List ℕ) (left : ℕ) : Type 0 where
  pub slots : given.slots ≤ 32
  pub members_are : AreReshaping scope given members
  pub course_is : IsCourseOf members.newest course
  pub sizes_are : scope.sizes ≡ sizes given
  pub left_told : IfSome (told_left entries) (λ n. n ≡ left)
  pub progress : IfSome resync (λ mended. mended ≤ resync_stripes members.newest)
  pub beside : IsAside course.window ⊎ IsUnsynced resync
  pub pending : tells → is_unsynced (world_in given tape scope first) entries ≡ is_some resync
  pub dirty : DoWithout members → IsSome resync → is_clean members.newest ≡ false
  pub levelled : tells → IsReliable (world_in given tape scope first) entries → tolerance_of (level_at (world_in given tape scope first) entries) ≡ tolerance (shape_of members.newest)
  pub gone : tells → IsReliable (world_in given tape scope first) entries → AreToldGone (world_in given tape scope first) entries members
  pub unclean : tells → is_clean members.newest ≡ false → (is_unsynced (world_in given tape scope first) entries || is_unsettled entries) ≡ true
  pub recorded : tells → IsHistoryKept (IsReliable (world_in given tape scope first) entries) (world_in given tape scope first) (list_length members.newest) entries
  pub last_step : tells → HasLastStep (world_in given tape scope first) entries (list_length members.newest)
  pub stored : tells → OpensOnCourse (world_in given tape scope first) → IsStored scope members course.window buffer (disk given.start tape)
  pub listed : tells → IsFilledRight (world_in given tape scope first) entries
      → HasListInCourse (OpensFit (world_in given tape scope first)) members resync course buffer (present given tape) (now (opening_list (world_in given tape scope first)) entries)
  pub safe : tells → IsFilledRight (world_in given tape scope first) entries → HasRoomForEvents (world_in given tape scope first)
      → IsSafeHistory ⊤ (world_in given tape scope first) given members carried true entries
