-- How much of the list is visible, and the steps that are left of an array in a reshape.
use Rattle.std.specs.Prelude.{◌≡◌, ℕ, ◌+◌, ◌-◌, ◌<◌, min, Bool, true, List, Option, Some}
use Rattle.std.specs.Option.{option_map_or}
use Rattle.reshape_progress.specs.raid_types_the_Span.{Span}
use Rattle.array_call_specs.specs.raid_types_the_Phase.{Phase}
use Rattle.reshape_progress.specs.bank_Given.{Given}
use Rattle.reshape_progress.specs.sb_codec_the_Sb.{Sb}
use Rattle.reshape_progress.specs.sb_specs_the_Members.{Members}
use Rattle.reshape_progress.specs.sb_specs_Reading.{is_reshaping, final_shape, next_window}
use Rattle.array_call_specs.specs.reshape_plan_Plans.{phases_steps}
use Rattle.reshape_progress.specs.reshape_request_Left.{stripes_in, zeroed_by, reshape_left, grow_left}
use Rattle.reshape_progress.specs.crash_views_Regions.{AreShapesFit}
use Rattle.reshape_progress.specs.crash_views_Windows.{moved_past}
use Rattle.reshape_progress.specs.array_members_Moving.{IsMoved}
use Rattle.reshape_progress.specs.reshape_window_steps_Zeroing.{IsThrough}
use Rattle.reshape_progress.specs.declared.course.Course.{Course}
use Rattle.reshape_progress.specs.Laws.{entered, closed, unsure}

-- so many sectors can be read and written of a list: those below the limit, if there is one
abbrev pub visible_by : ℕ → Option ℕ → ℕ
visible_by size limit = option_map_or (λ most. min most size) limit size

-- the steps that are left: of the reshape, and so many of the phases behind it
abbrev pub left_of : Sb → Course → ℕ → ℕ
left_of newest course planned = reshape_left newest course.window course.zeroed + planned

-- ---- each step takes one, on members that may have lost slots in it

abbrev pub LeftStays : Type 0
LeftStays = (given : Given) (old new : Members) (course : Course) (planned : ℕ) → IsMoved given old new → left_of new.newest course planned ≡ left_of old.newest course planned

-- a window is entered; an unsure one isn't yet
pub record IsEnteredLeft (old new : Members) (span : Span) (sectioned : Bool) (planned : ℕ) : Type 0 where
  pub one : left_of new.newest (entered span 0 sectioned) planned + 1 ≡ left_of old.newest (closed 0) planned
  pub unsure_is : left_of new.newest (unsure span) planned ≡ left_of old.newest (closed 0) planned

abbrev pub EnteringTakesOne : Type 0
EnteringTakesOne = (given : Given) (old new : Members) (span : Span) (sectioned : Bool) (planned : ℕ) → AreShapesFit old.newest → next_window old.newest ≡ Some span → IsMoved given old new
    → IsEnteredLeft old new span sectioned planned

abbrev pub CopyingTakesOne : Type 0
CopyingTakesOne = (given : Given) (old new : Members) (span : Span) (copied : ℕ) (sectioned : Bool) (planned : ℕ) → is_reshaping old.newest ≡ true → copied < stripes_in old.newest span → IsMoved given old new
    → left_of new.newest (entered span (copied + 1) sectioned) planned + 1 ≡ left_of old.newest (entered span copied sectioned) planned

abbrev pub RecordingTakesOne : Type 0
RecordingTakesOne = (given : Given) (old new : Members) (span : Span) (sectioned : Bool) (planned : ℕ) → is_reshaping old.newest ≡ true → IsMoved given (moved_past span old) new
    → left_of new.newest (closed 0) planned + 1 ≡ left_of old.newest (entered span (stripes_in old.newest span) sectioned) planned

-- a window of which so many stripes are copied is finished at once
abbrev pub FinishingTakesTheRest : Type 0
FinishingTakesTheRest = (given : Given) (old new : Members) (span : Span) (copied : ℕ) (sectioned : Bool) (planned : ℕ) → is_reshaping old.newest ≡ true → IsMoved given (moved_past span old) new
    → left_of new.newest (closed 0) planned + ((stripes_in old.newest span - copied) + 1) ≡ left_of old.newest (entered span copied sectioned) planned

abbrev pub ZeroingTakesOne : Type 0
ZeroingTakesOne = (given : Given) (old new : Members) (zeroed planned : ℕ) → is_reshaping old.newest ≡ true → zeroed < zeroed_by old.newest → IsMoved given old new
    → left_of new.newest (closed (zeroed + 1)) planned + 1 ≡ left_of old.newest (closed zeroed) planned

-- where a reshape has gone through the list, and each stripe behind it is zeroed, its end is left
abbrev pub EndLeavesPlanned : Type 0
EndLeavesPlanned = (newest : Sb) (planned : ℕ) → AreShapesFit newest → IsThrough newest → left_of newest (closed (zeroed_by newest)) planned ≡ planned + 1

-- ---- the whole plan

abbrev pub PlansAreCounted : Type 0
PlansAreCounted = (newest : Sb) (course : Course) (ahead : List Phase) → is_reshaping newest ≡ true
    → left_of newest course (phases_steps (final_shape newest) newest.size ahead) ≡ grow_left newest course.window course.zeroed ahead
