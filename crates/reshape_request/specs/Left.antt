-- The steps that are left of a reshape under way, and of the phases that haven't begun.
use Rattle.std.specs.Prelude.{Bool, ◌≡◌, ℕ, ◌+◌, ◌-◌, ◌/◌, ◌<◌, ◌≤◌, true, false, nat_lt, if◌then◌else◌, List, ◌∷◌, ◌++◌, Some, None, ⊤}
use Rattle.std.specs.Option.{option_to_list}
use Rattle.history.specs.raid_types_the_Shape.{Shape}
use Rattle.history.specs.raid_types_the_Span.{Span}
use Rattle.history.specs.raid_types_the_Phase.{Phase}
use Rattle.history.specs.raid_types_the_Phase_TheVariants.{Reshape, UpTo6, DownTo5}
use Rattle.history.specs.raid_types_Shapes.{data_disks}
use Rattle.history.specs.sb_codec_the_Sb.{Sb}
use Rattle.history.specs.reshape_geometry_Geometry.{AreInForce, list_end, stripes, steps_of, zeroed_stripes, beyond}
use Rattle.history.specs.reshape_plan_Plans.{phases_steps}
use Rattle.stripe_row.specs.sb_specs_Reading.{is_reshaping, is_backward, shape_of, final_shape, list_length, next_window}
use Rattle.reshape_request.specs.declared.window.Window.{Window}
use Rattle.reshape_request.specs.declared.window.Window.TheVariants.{Closed, Entered, Unsure}
use Rattle.reshape_request.specs.declared.window.PhasesLeft.{PhasesLeft}

-- ---- how many

-- the steps of the reshape from a position on, where no window is entered
abbrev pub steps_from : Sb → ℕ → ℕ
steps_from newest position = steps_of (shape_of newest) (final_shape newest) newest.size (is_backward newest) position

-- the new stripes of a window
abbrev pub stripes_in : Sb → Span → ℕ
stripes_in newest span = stripes (final_shape newest) span.lo span.hi

-- the stripes behind the list that a reshape zeroes
abbrev pub zeroed_by : Sb → ℕ
zeroed_by newest = zeroed_stripes (shape_of newest) (final_shape newest) newest.size (is_backward newest)

-- The steps that a reshape has left, of which so many stripes are zeroed. Of an entered window these are the stripes that aren't copied, and its record; a
-- window of which nothing is sure isn't entered.
abbrev pub reshape_left : Sb → Window → ℕ → ℕ
reshape_left newest Closed zeroed = steps_from newest newest.reshape_position - zeroed
reshape_left newest (Unsure span) zeroed = steps_from newest newest.reshape_position - zeroed
reshape_left newest (Entered span copied sectioned) zeroed =
    (stripes_in newest span - copied) + 1 + (steps_from newest (beyond (is_backward newest) span) - zeroed)

-- the phases that haven't begun, in order
abbrev pub phases_of : PhasesLeft → List Phase
phases_of ahead = option_to_list ahead.next ++ option_to_list ahead.last

-- the steps that are left of an active reshape, and of the phases behind it
abbrev pub grow_left : Sb → Window → ℕ → List Phase → ℕ
grow_left newest window zeroed ahead =
    (if is_reshaping newest then reshape_left newest window zeroed else 0) + phases_steps (final_shape newest) newest.size ahead

-- ---- when

-- a reshape is active, whose shapes fit the size, and which has come to a place of the list
pub record IsReshapeUnderWay (newest : Sb) : Type 0 where
  pub active : is_reshaping newest ≡ true
  pub in_force : AreInForce (shape_of newest) (final_shape newest) newest.size
  pub within : newest.reshape_position ≤ list_length newest

-- an entered window is the next one, and no more stripes of it are copied than it has
abbrev pub IsWindowRight : Sb → Window → Type 0
IsWindowRight newest Closed = ⊤
IsWindowRight newest (Unsure span) = ⊤
IsWindowRight newest (Entered span copied sectioned) = (next_window newest ≡ Some span) × (copied ≤ stripes_in newest span)

-- the reshape is the same one, behind this window
pub record IsPast (span : Span) (old new : Sb) : Type 0 where
  pub active : is_reshaping new ≡ is_reshaping old
  pub shape : shape_of new ≡ shape_of old
  pub final : final_shape new ≡ final_shape old
  pub backward : is_backward new ≡ is_backward old
  pub size : new.size ≡ old.size
  pub position : new.reshape_position ≡ beyond (is_backward old) span

-- The reshape to this shape is at its start: the list's end where the new shape has fewer data disks, and else 0.
pub record IsAtStartOf (old : Sb) (to : Shape) (new : Sb) : Type 0 where
  pub active : is_reshaping new ≡ true
  pub shape : shape_of new ≡ shape_of old
  pub final : final_shape new ≡ to
  pub backward : is_backward new ≡ nat_lt (data_disks to) (data_disks (shape_of old))
  pub size : new.size ≡ old.size
  pub position : new.reshape_position ≡ (if is_backward new then list_end (shape_of old) to old.size else 0)

-- no reshape is active, and the shape is this one
pub record HasShape (old : Sb) (to : Shape) (new : Sb) : Type 0 where
  pub still : is_reshaping new ≡ false
  pub shape : shape_of new ≡ to
  pub size : new.size ≡ old.size

-- ---- each step takes one

abbrev pub BeginningTakesOne : Type 0
BeginningTakesOne = (old new : Sb) (to : Shape) (ahead : List Phase) → is_reshaping old ≡ false → IsAtStartOf old to new
    → grow_left new Closed 0 ahead + 1 ≡ grow_left old Closed 0 (Reshape to ∷ ahead)

abbrev pub EnteringTakesOne : Type 0
EnteringTakesOne = (newest : Sb) (span : Span) (sectioned : Bool) (zeroed : ℕ) (ahead : List Phase) → IsReshapeUnderWay newest → next_window newest ≡ Some span → zeroed ≤ zeroed_by newest
    → grow_left newest (Entered span 0 sectioned) zeroed ahead + 1 ≡ grow_left newest Closed zeroed ahead

abbrev pub CopyingTakesOne : Type 0
CopyingTakesOne = (newest : Sb) (span : Span) (sectioned : Bool) (copied zeroed : ℕ) (ahead : List Phase) → is_reshaping newest ≡ true → copied < stripes_in newest span
    → grow_left newest (Entered span (copied + 1) sectioned) zeroed ahead + 1 ≡ grow_left newest (Entered span copied sectioned) zeroed ahead

-- a window whose stripes are copied is recorded
abbrev pub RecordingTakesOne : Type 0
RecordingTakesOne = (old new : Sb) (span : Span) (sectioned : Bool) (zeroed : ℕ) (ahead : List Phase) → is_reshaping old ≡ true → IsPast span old new
    → grow_left new Closed zeroed ahead + 1 ≡ grow_left old (Entered span (stripes_in old span) sectioned) zeroed ahead

-- a window of which so many stripes are copied is finished at once: what it had left is done
abbrev pub FinishingTakesTheRest : Type 0
FinishingTakesTheRest = (old new : Sb) (span : Span) (sectioned : Bool) (copied zeroed : ℕ) (ahead : List Phase) → is_reshaping old ≡ true → IsPast span old new
    → grow_left new Closed zeroed ahead + ((stripes_in old span - copied) + 1) ≡ grow_left old (Entered span copied sectioned) zeroed ahead

abbrev pub ZeroingTakesOne : Type 0
ZeroingTakesOne = (newest : Sb) (zeroed : ℕ) (ahead : List Phase) → is_reshaping newest ≡ true → zeroed < zeroed_by newest
    → grow_left newest Closed (zeroed + 1) ahead + 1 ≡ grow_left newest Closed zeroed ahead

-- a reshape of which no window is left and each stripe is zeroed ends
abbrev pub EndingTakesOne : Type 0
EndingTakesOne = (old new : Sb) (ahead : List Phase) → IsReshapeUnderWay old → next_window old ≡ None → HasShape old (final_shape old) new
    → grow_left new Closed 0 ahead + 1 ≡ grow_left old Closed (zeroed_by old) ahead

-- a takeover to level 6 leaves a rebuild of its Q besides: each stripe, and its end
abbrev pub TakingUpTakesOne : Type 0
TakingUpTakesOne = (old new : Sb) (to : Shape) (ahead : List Phase) → is_reshaping old ≡ false → HasShape old to new
    → grow_left new Closed 0 ahead + (new.size / to.chunk + 1) + 1 ≡ grow_left old Closed 0 (UpTo6 to ∷ ahead)

abbrev pub TakingDownTakesOne : Type 0
TakingDownTakesOne = (old new : Sb) (to : Shape) (ahead : List Phase) → is_reshaping old ≡ false → HasShape old to new
    → grow_left new Closed 0 ahead + 1 ≡ grow_left old Closed 0 (DownTo5 to ∷ ahead)

-- Where no window is entered and nothing is zeroed, what is left is what the geometry counts.
abbrev pub BoundariesAreCounted : Type 0
BoundariesAreCounted = (newest : Sb) → reshape_left newest Closed 0 ≡ steps_from newest newest.reshape_position
