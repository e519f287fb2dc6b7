-- Which window of a reshape is open, and which step is next.
use Rattle.std.specs.Prelude.{◌≡◌, ◌⊎◌, ℕ, ◌<◌, nat_lt, Bool, if◌then◌else◌, is_some, Option, Some, None}
use Rattle.reshape_progress.specs.raid_types_the_Span.{Span}
use Rattle.reshape_progress.specs.sb_codec_the_Sb.{Sb}
use Rattle.reshape_progress.specs.sb_specs_Reading.{next_window}
use Rattle.reshape_progress.specs.reshape_request_the_Window.{Window}
use Rattle.reshape_progress.specs.reshape_request_the_Window_TheVariants.{Closed, Entered, Unsure}
use Rattle.reshape_progress.specs.reshape_request_Left.{stripes_in, zeroed_by}
use Rattle.reshape_progress.specs.reshape_window_steps_Zeroing.{IsThrough}
use Rattle.stripe_region_resync.specs.Mends.{resync_stripes}
use Rattle.reshape_progress.specs.declared.course.Course.{Course}
use Rattle.reshape_progress.specs.Laws.{entered, closed, unsure}
use Rattle.array_reshaping_state.specs.declared.stepping.Due.{Due}
use Rattle.array_reshaping_state.specs.declared.stepping.Due.TheVariants.{Copy, Record, Mend, EndResync, Enter, Zero, Finish}

-- ---- the window

-- the span of the window that is entered
abbrev pub open_in : Window → Option Span
open_in Closed = None
open_in (Entered span copied sectioned) = Some span
open_in (Unsure span) = None

-- the span of a window that isn't entered, whose section the backup may name or not
abbrev pub unsure_in : Window → Option Span
unsure_in Closed = None
unsure_in (Entered span copied sectioned) = None
unsure_in (Unsure span) = Some span

-- ---- the step

-- Where no window is entered, the next one is; behind the last, each stripe behind the list is zeroed, and then the reshape ends.
abbrev pub due_between : Sb → ℕ → Due
due_between newest zeroed = if is_some (next_window newest) then Enter else if nat_lt zeroed (zeroed_by newest) then Zero else Finish

-- But while a resync is pending, each stripe that it hasn't mended is, and then it ends.
abbrev pub due_aside : Sb → ℕ → Option ℕ → Due
due_aside newest cleared None = due_between newest cleared
due_aside newest cleared (Some mended) = if nat_lt mended (resync_stripes newest) then Mend else EndResync

-- In an entered window each stripe is copied, and then it is recorded, whether a resync is pending or not.
abbrev pub due_in : Sb → Window → ℕ → Option ℕ → Due
due_in newest Closed cleared resync = due_aside newest cleared resync
due_in newest (Entered span copied sectioned) cleared resync = if nat_lt copied (stripes_in newest span) then Copy else Record
due_in newest (Unsure span) cleared resync = due_aside newest cleared resync

abbrev pub due_of : Sb → Course → Option ℕ → Due
due_of newest course resync = due_in newest course.window course.zeroed resync

-- What is true where a step is next: of the window, of how far the reshape has come, and of a pending resync.
abbrev pub IsDue : Sb → Course → Option ℕ → Due → Type 0
IsDue newest course resync Copy = (span : Span) × (copied : ℕ) × (sectioned : Bool)
    × (course ≡ entered span copied sectioned) × (next_window newest ≡ Some span) × (copied < stripes_in newest span)
IsDue newest course resync Record = (span : Span) × (sectioned : Bool) × (course ≡ entered span (stripes_in newest span) sectioned) × (next_window newest ≡ Some span)
IsDue newest course resync Mend = (mended : ℕ) × (resync ≡ Some mended) × (mended < resync_stripes newest) × (open_in course.window ≡ None)
IsDue newest course resync EndResync = (resync ≡ Some (resync_stripes newest)) × (open_in course.window ≡ None)
IsDue newest course resync Enter = (span : Span) × ((course ≡ closed 0) ⊎ (course ≡ unsure span)) × (next_window newest ≡ Some span) × (resync ≡ None)
IsDue newest course resync Zero = (course ≡ closed course.zeroed) × (course.zeroed < zeroed_by newest) × IsThrough newest × (resync ≡ None)
IsDue newest course resync Finish = (course ≡ closed (zeroed_by newest)) × IsThrough newest × (resync ≡ None)
