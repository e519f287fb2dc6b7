-- What an array in a reshape keeps between its calls.
use Rattle.std.specs.Prelude.{◌≡◌, ℕ, ◌-◌, ◌*◌, ◌<◌, ◌≤◌, false, List, [], length, take, Option}
use Rattle.array_fixed_laws.specs.raid_types_Shapes.{has_slot}
use Rattle.array_fixed_laws.specs.raid_types_the_Span.{Span}
use Rattle.reshape_window_backup.specs.bank_the_Operation.{Operation}
use Rattle.reshape_window_backup.specs.bank_Given.{Given}
use Rattle.array_reshaping_resync_laws.specs.sb_specs_the_Members.{Members}
use Rattle.array_reshaping_resync_laws.specs.sb_specs_Reading.{Scope, final_shape, list_length}
use Rattle.reshape_window_backup.specs.reshape_plan_Plans.{AreSound}
use Rattle.array_reshaping_resync_laws.specs.history_the_Entry.{Entry}
use Rattle.array_reshaping_resync_laws.specs.history_Flat.{length_of, limit_of}
use Rattle.array_reshaping_resync_laws.specs.history_Stands.{reach_of}
use Rattle.array_reshaping_resync_laws.specs.crash_views_Regions.{backup_of}
use Rattle.array_reshaping_resync_laws.specs.array_members_the_Work.{Work}
use Rattle.array_reshaping_resync_laws.specs.array_members_Numbers.{bears}
use Rattle.array_reshaping_resync_laws.specs.reshape_request_the_Window.{Window}
use Rattle.array_reshaping_resync_laws.specs.reshape_request_the_Window_TheVariants.{Closed, Entered, Unsure}
use Rattle.array_reshaping_resync_laws.specs.reshape_request_the_PhasesLeft.{PhasesLeft}
use Rattle.array_reshaping_resync_laws.specs.reshape_request_Left.{phases_of}
use Rattle.array_fixed_laws.specs.array_specs_Parts.{left_in}
use Rattle.array_reshaping_resync_laws.specs.array_members_Placed.{AreWhole}
use Rattle.array_reshaping_resync_laws.specs.history_invariant_Safe.{world_in, TakesNone}
use Rattle.array_reshaping_resync_laws.specs.reshape_progress_the_Course.{Course}
use Rattle.array_reshaping_resync_laws.specs.array_reshaping_invariant_Moving.{IsMoving}

-- the bytes of a buffer that have the window's sectors
abbrev pub bytes_in : Window → List ℕ → List ℕ
bytes_in Closed buffer = []
bytes_in (Entered span copied sectioned) buffer = take (512 * (span.hi - span.lo)) buffer
bytes_in (Unsure span) buffer = take (512 * (span.hi - span.lo)) buffer

-- The array keeps the record of its reshape. The entries tell the length of its list and the limit of its visible size, where none of them takes a role's
-- holder no role is missing, each slot that wasn't found sound has failed, and the backup where a window is unsure, the window's buffer has room for each window, and there is room for the entries of so many
-- steps and of its end, and for the rows of one call in two regions.
pub record IsReady (tells : Type 0) (given : Given) (tape : List Operation) (scope : Scope) (first : ℕ) (entries : List Entry)
    (members : Members) (work : Work) (course : Course) (ahead : PhasesLeft) (limit : Option ℕ) (window : List ℕ) (faults : ℕ → ℕ) (steps room rows buffer far_rows far_buffer : ℕ) : Type 0 where
  pub kept : IsMoving tells given tape scope first entries members (bears work) work.resync course (bytes_in course.window window) (left_in work members course ahead)
  pub sized : length_of (list_length members.newest) entries ≡ list_length members.newest
  pub limited : limit_of entries ≡ limit
  pub full : tells → TakesNone (world_in given tape scope first) entries → AreWhole members
  pub planned : AreSound (final_shape members.newest) members.newest.size (phases_of ahead)
  pub wide : 512 * reach_of members.newest ≤ length window
  pub failed : (slot : ℕ) → slot < given.slots → has_slot scope.given slot ≡ false → 0 < faults slot
  pub dead : (span : Span) → course.window ≡ Unsure span → 0 < faults (backup_of scope)
  pub room_left : 50 * steps < room
  pub rows_fit : 128 ≤ rows
  pub buffer_fits : 1048576 ≤ buffer
  pub far_rows_fit : 128 ≤ far_rows
  pub far_buffer_fits : 1048576 ≤ far_buffer
