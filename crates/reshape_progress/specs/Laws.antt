-- What a step makes of the course of a reshape, by what its call leaves: on members that lost slots, with a stripe copied, recorded or zeroed.
use Rattle.std.specs.Prelude.{◌≡◌, ℕ, ◌+◌, ◌*◌, ◌/◌, ◌<◌, ◌≤◌, Bool, true, false, List, Some, None, length}
use Rattle.reshape_request.specs.raid_types_the_Shape.{Shape}
use Rattle.reshape_request.specs.raid_types_the_Span.{Span}
use Rattle.reshape_request.specs.raid_types_Sectors.{Sector, zero_sector}
use Rattle.reshape_request.specs.raid_types_Shapes.{stripe_sectors}
use Rattle.reshape_request.specs.bank_Given.{Given}
use Rattle.reshape_request.specs.bank_Tape.{Contents}
use Rattle.reshape_request.specs.sb_codec_the_Sb.{Sb}
use Rattle.reshape_request.specs.reshape_geometry_Geometry.{stripes, rows, zeroed_stripes, is_critical}
use Rattle.reshape_request.specs.reshape_geometry_Geometry as geometry
use Rattle.reshape_window_steps.specs.sb_specs_the_Members.{Members}
use Rattle.reshape_window_steps.specs.sb_specs_Reading.{Scope, is_reshaping, is_backward, shape_of, final_shape, list_length, next_window, role_state, holder, data_offset_of}
use Rattle.reshape_window_steps.specs.sb_specs_Update.{own_in}
use Rattle.reshape_window_steps.specs.stripe_row_Rows.{reading_of, held_slot}
use Rattle.reshape_window_steps.specs.stripe_list_Full.{RowStands}
use Rattle.reshape_window_steps.specs.stripe_list_Writing.{IsWritten}
use Rattle.reshape_window_steps.specs.history_Stands.{shape_for, covers}
use Rattle.reshape_window_steps.specs.crash_views_Regions.{place_by, ArePlaced, DoWithout}
use Rattle.reshape_window_steps.specs.crash_views_Views.{AreHeadersFit, Disk}
use Rattle.reshape_window_steps.specs.crash_views_Windows.{IsShown, ListStands, RowsStand, AreTailsStanding, moved_past}
use Rattle.reshape_window_steps.specs.crash_views_Backups.{IsOpenUnderAll}
use Rattle.reshape_window_steps.specs.crash_safety_laws_Marking.{AreOthersPresent}
use Rattle.reshape_window_steps.specs.crash_reshape_laws_Ends.{IsBegun}
use Rattle.reshape_window_steps.specs.crash_reshape_laws_Grown.{IsZeroPast}
use Rattle.reshape_window_steps.specs.reshape_begin_end_Finished.{IsZeroBehind}
use Rattle.reshape_window_steps.specs.array_members_Placed.{IsPlaced}
use Rattle.reshape_window_steps.specs.array_members_Moving.{IsMoved}
use Rattle.reshape_window_steps.specs.array_members_Lacking.{DoesWithout, IsOfStripe, AreOtherRowsKept}
use Rattle.reshape_window_steps.specs.array_members_Under.{StandsUnder, RowsStandUnder}
use Rattle.reshape_window_steps.specs.reshape_window_rows_Copies.{tail_of, HasWindow, IsRoomFor, IsCopied}
use Rattle.reshape_window_steps.specs.Zeroing.{IsThrough}
use Rattle.reshape_progress.specs.declared.course.Course.{Course}
use Rattle.reshape_request.specs.declared.window.Window.{Window}
use Rattle.reshape_request.specs.declared.window.Window.TheVariants.{Closed, Entered, Unsure}
use Rattle.reshape_progress.specs.Course.{IsStored, IsBackupKept, IsOfStripes, AnyShape, StandsInCourse, past_stripe, IsCourseOf, hidden_in, span_in}

-- ---- what stands

-- The law holds whichever shapes these are.
abbrev pub ByShapes : ((Shape → Type 0) → Type 0) → Type 0
ByShapes Law = (among : Shape → Bool) → Law (λ shape. among shape ≡ true)

-- The members do without what they miss by each shape in force, and the list stands in the course by the shapes that do: so it does by any.
abbrev pub CoursesStandWhole : (sound : Type 0) → Type 0
CoursesStandWhole sound = (m : Members) (course : Course) (buffer : List ℕ) (c : Contents) (list : ℕ → Sector) → DoWithout m
    → StandsInCourse sound (λ shape. DoesWithout shape m) m course buffer c list → StandsInCourse sound AnyShape m course buffer c list

-- Members that lost slots, where all but the superblocks is as it was, stand in the same course.
abbrev pub CoursesMove : (sound : Type 0) (among : Shape → Type 0) → Type 0
CoursesMove sound among = (given : Given) (old new : Members) (course : Course) (buffer : List ℕ) (c e : Contents) (list : ℕ → Sector) → IsPlaced given old → IsMoved given old new → AreOthersPresent c e
    → StandsInCourse sound among old course buffer c list → StandsInCourse sound among new course buffer e list

-- The members say the same of the array, of its roles and of the slots that hold them: they differ in spares at most, and in what is kept of them.
pub record DifferInSpares (old new : Members) : Type 0 where
  pub newest : new.newest ≡ old.newest
  pub roles : new.roles ≡ old.roles
  pub own : (role slot : ℕ) → holder (role_state (reading_of old) role) ≡ Some slot → own_in new.own slot ≡ own_in old.own slot

-- They stand in the same course then.
abbrev pub SparesLeaveCourses : (sound : Type 0) (among : Shape → Type 0) → Type 0
SparesLeaveCourses sound among = (old new : Members) (course : Course) (buffer : List ℕ) (c : Contents) (list : ℕ → Sector) → DifferInSpares old new
    → StandsInCourse sound among old course buffer c list → StandsInCourse sound among new course buffer c list

-- an entered window, before any stripe behind the list is zeroed
abbrev pub entered : Span → ℕ → Bool → Course
entered span copied sectioned = record { window = Entered span copied sectioned; zeroed = 0 }

abbrev pub closed : ℕ → Course
closed zeroed = record { window = Closed; zeroed = zeroed }

abbrev pub unsure : Span → Course
unsure span = record { window = Unsure span; zeroed = 0 }

-- the stripe of the new shape that is copied next
abbrev pub next_stripe : Members → Span → ℕ → ℕ
next_stripe m span copied = span.lo / stripe_sectors (final_shape m.newest) + copied

-- Where rows of the next stripe are written and no others, all stands on as before; and where that stripe stands by the new shape, with it copied.
abbrev pub CopiesGoOn : (sound : Type 0) (among : Shape → Type 0) → Type 0
CopiesGoOn sound among = (given : Given) (old new : Members) (span : Span) (copied : ℕ) (sectioned : Bool) (buffer : List ℕ) (c e : Contents) (list : ℕ → Sector)
    → IsPlaced given old → IsMoved given old new → next_window old.newest ≡ Some span → copied < stripes (final_shape old.newest) span.lo span.hi
    → (sectioned ≡ false → is_critical (shape_of old.newest) (final_shape old.newest) old.newest.size (is_backward old.newest) span ≡ false)
    → AreOtherRowsKept (IsOfStripe (final_shape old.newest) (next_stripe old span copied)) (reading_of new) c e
    → StandsInCourse sound among old (entered span copied sectioned) buffer c list
    → StandsInCourse sound among new (entered span copied sectioned) buffer e list
    × (((row : ℕ) → IsOfStripe (final_shape old.newest) (next_stripe old span copied) row → RowStands (reading_of new) e (final_shape old.newest) list row)
    → StandsInCourse sound among new (entered span (copied + 1) sectioned) buffer e list)

-- A reshape has begun, and nothing of it is done yet: the list that stood stands in its course, forward with zeros behind its end.
abbrev pub BeginsStand : (sound : Type 0) (among : Shape → Type 0) → Type 0
BeginsStand sound among = (scope : Scope) (given : Given) (old plan new : Members) (buffer : List ℕ) (c e : Contents) (list : ℕ → Sector) → IsBegun old plan → ArePlaced scope given plan → IsMoved given plan new
    → AreOtherRowsKept (λ row. ⊥) (reading_of new) c e → (is_backward plan.newest ≡ false → IsZeroPast (list_length plan.newest) list)
    → (among (shape_of new.newest) → ListStands None old c list) → (among (shape_of new.newest) → sound → RowsStand None old c list) → StandsInCourse sound among new (closed 0) buffer e list

-- The next window's sectors are in the buffer: it is entered, with its section stored or not, or unsure.
abbrev pub EntersStand : (sound : Type 0) (among : Shape → Type 0) → Type 0
EntersStand sound among = (given : Given) (old new : Members) (span : Span) (sectioned : Bool) (former buffer : List ℕ) (c e : Contents) (list : ℕ → Sector) → IsMoved given old new
    → AreOtherRowsKept (λ row. ⊥) (reading_of new) c e → IsRoomFor span buffer → HasWindow span buffer list → StandsInCourse sound among old (closed 0) former c list
    → StandsInCourse sound among new (entered span 0 sectioned) buffer e list × StandsInCourse sound among new (unsure span) buffer e list

-- The list that stands in the course has the buffer's sectors in the window, and forward zeros in the tail: it is what a copy writes.
abbrev pub CoursesAreCopied : (sound : Type 0) (among : Shape → Type 0) → Type 0
CoursesAreCopied sound among = (scope : Scope) (given : Given) (m : Members) (span : Span) (copied : ℕ) (sectioned : Bool) (buffer : List ℕ) (c : Contents) (list : ℕ → Sector) → ArePlaced scope given m
    → next_window m.newest ≡ Some span → StandsInCourse sound among m (entered span copied sectioned) buffer c list → IsCopied span buffer (tail_of m.newest) list

-- All stripes of the window are copied: its rows stand by the new shape, and the list outside it, with its rows.
pub record IsWindowCopied (sound : Type 0) (m : Members) (span : Span) (c : Contents) (list : ℕ → Sector) : Type 0 where
  pub window : (row : ℕ) → geometry.IsIn row (rows (final_shape m.newest) span.lo span.hi) → RowStands (reading_of m) c (final_shape m.newest) list row
  pub stands : ListStands (Some span) m c list
  pub rows_are : sound → RowsStand (Some span) m c list

abbrev pub WindowsAreCopied : (sound : Type 0) → Type 0
WindowsAreCopied sound = (m : Members) (span : Span) (sectioned : Bool) (buffer : List ℕ) (c : Contents) (list : ℕ → Sector)
    → StandsInCourse sound AnyShape m (entered span (stripes (final_shape m.newest) span.lo span.hi) sectioned) buffer c list → IsWindowCopied sound m span c list

-- All stripes are copied: once the position has moved behind the window, the list stands in the new shape there, and none is open.
abbrev pub RecordsClose : (sound : Type 0) → Type 0
RecordsClose sound = (scope : Scope) (given : Given) (old new : Members) (span : Span) (sectioned : Bool) (buffer : List ℕ) (c e : Contents) (list : ℕ → Sector)
    → ArePlaced scope given old → IsPlaced given old → next_window old.newest ≡ Some span → IsMoved given (moved_past span old) new → AreOthersPresent c e
    → StandsInCourse sound AnyShape old (entered span (stripes (final_shape old.newest) span.lo span.hi) sectioned) buffer c list → StandsInCourse sound AnyShape new (closed 0) buffer e list

-- a row of the stripes of the window that are left to copy
abbrev pub IsLeftRow : Members → Span → ℕ → ℕ → Type 0
IsLeftRow m span copied row = (next_stripe m span copied * (final_shape m.newest).chunk ≤ row) × (row < (rows (final_shape m.newest) span.lo span.hi).hi)

-- each of its stripes stands by the new shape, as the list
abbrev pub AreStripesStanding : Members → Members → Span → Contents → (ℕ → Sector) → Type 0
AreStripesStanding old new span e list = (row : ℕ) → IsOfStripes (final_shape old.newest) (span.lo / stripe_sectors (final_shape old.newest)) (stripes (final_shape old.newest) span.lo span.hi) row
    → RowStands (reading_of new) e (final_shape old.newest) list row

-- Where rows of the stripes that are left are written and no others, all stands on as before; and where all stripes stand by the new shape, with all of them copied.
abbrev pub RestsGoOn : (sound : Type 0) (among : Shape → Type 0) → Type 0
RestsGoOn sound among = (given : Given) (old new : Members) (span : Span) (copied : ℕ) (sectioned : Bool) (buffer : List ℕ) (c e : Contents) (list : ℕ → Sector)
    → IsPlaced given old → IsMoved given old new → next_window old.newest ≡ Some span
    → (sectioned ≡ false → is_critical (shape_of old.newest) (final_shape old.newest) old.newest.size (is_backward old.newest) span ≡ false)
    → AreOtherRowsKept (IsLeftRow old span copied) (reading_of new) c e
    → StandsInCourse sound among old (entered span copied sectioned) buffer c list
    → StandsInCourse sound among new (entered span copied sectioned) buffer e list
    × (AreStripesStanding old new span e list → StandsInCourse sound among new (entered span (stripes (final_shape new.newest) span.lo span.hi) sectioned) buffer e list)

-- The stripes that are left are copied and the position moves, in one call: the list stands behind both, and no window is open.
abbrev pub FinishesClose : (sound : Type 0) → Type 0
FinishesClose sound = (given : Given) (old new : Members) (span : Span) (copied : ℕ) (sectioned : Bool) (buffer : List ℕ) (c e : Contents) (list : ℕ → Sector)
    → IsPlaced given old → IsMoved given (moved_past span old) new → next_window old.newest ≡ Some span
    → (sectioned ≡ false → is_critical (shape_of old.newest) (final_shape old.newest) old.newest.size (is_backward old.newest) span ≡ false)
    → AreOtherRowsKept (IsLeftRow old span copied) (reading_of new) c e → AreStripesStanding old new span e list
    → StandsInCourse sound AnyShape old (entered span copied sectioned) buffer c list → StandsInCourse sound AnyShape new (closed 0) buffer e list

-- Where rows of the next stripe behind the list are written and no others, all stands on; and where they stand as zeros, with that stripe zeroed.
abbrev pub ZeroesGoOn : (sound : Type 0) (among : Shape → Type 0) → Type 0
ZeroesGoOn sound among = (given : Given) (old new : Members) (zeroed : ℕ) (buffer : List ℕ) (c e : Contents) (list : ℕ → Sector)
    → IsPlaced given old → IsMoved given old new → IsThrough old.newest
    → AreOtherRowsKept (IsOfStripe (final_shape old.newest) (past_stripe old.newest + zeroed)) (reading_of new) c e
    → StandsInCourse sound among old (closed zeroed) buffer c list
    → StandsInCourse sound among new (closed zeroed) buffer e list
    × (((row : ℕ) → IsOfStripe (final_shape old.newest) (past_stripe old.newest + zeroed) row → RowStands (reading_of new) e (final_shape old.newest) (λ x. zero_sector) row)
    → StandsInCourse sound among new (closed (zeroed + 1)) buffer e list)

-- All stripes behind the list are zeroed: what is behind it is zero, on the members and in the list.
abbrev pub ZeroesAreAll : (sound : Type 0) → Type 0
ZeroesAreAll sound = (given : Given) (m : Members) (buffer : List ℕ) (c : Contents) (list : ℕ → Sector) → IsPlaced given m → is_reshaping m.newest ≡ true → is_backward m.newest ≡ false
    → StandsInCourse sound AnyShape m (closed (zeroed_stripes (shape_of m.newest) (final_shape m.newest) m.newest.size (is_backward m.newest))) buffer c list → IsZeroBehind m c list

-- The list stands whichever header a stop leaves, and so do its rows.
abbrev pub CoursesStandUnder : (sound : Type 0) → Type 0
CoursesStandUnder sound = (scope : Scope) (m : Members) (course : Course) (buffer : List ℕ) (c : Contents) (d : Disk) (list : ℕ → Sector)
    → IsStored scope m course.window buffer d → StandsInCourse sound AnyShape m course buffer c list → StandsUnder scope m c d list × (sound → RowsStandUnder scope m c d list)

-- Sectors of the list are written, none of them in the window under way, and no row but those in which one of them stands. The list with them stands in the same
-- course by these shapes, if it stands on the members and in the tail, and where the epoch opened sound its rows stand.
abbrev pub WritesGoOn : (sound : Type 0) (among : Shape → Type 0) → Type 0
WritesGoOn sound among = (given : Given) (old new : Members) (course : Course) (buffer : List ℕ) (c e : Contents) (list list' : ℕ → Sector) (first : ℕ) (from : List ℕ)
    → IsPlaced given old → IsMoved given old new → IsCourseOf old.newest course → IsWritten list list' first from → first + length from / 512 ≤ list_length old.newest
    → ((x : ℕ) → first ≤ x → x < first + length from / 512 → covers (span_in course.window) x ≡ false)
    → AreOtherRowsKept (λ row. (x : ℕ) × (first ≤ x) × (x < first + length from / 512) × ((place_by old.newest x).row ≡ row)) (reading_of new) c e
    → ((x slot : ℕ) → among (shape_for new.newest x) → IsShown (hidden_in course.window) new.newest x
    → held_slot (reading_of new) (place_by new.newest x).role (place_by new.newest x).row ≡ Some slot → e slot (data_offset_of (reading_of new) slot + (place_by new.newest x).row) ≡ list' x)
    → (among (final_shape new.newest) → AreTailsStanding new e list')
    → (sound → (x : ℕ) → among (shape_for new.newest x) → IsShown (hidden_in course.window) new.newest x → RowStands (reading_of new) e (shape_for new.newest x) list' (place_by new.newest x).row)
    → StandsInCourse sound among old course buffer c list → StandsInCourse sound among new course buffer e list'

-- one of the sectors from one of the list up to another that none of these shapes places has its place in the row
abbrev pub IsOtherTouched : (Shape → Type 0) → Sb → ℕ → ℕ → ℕ → Type 0
IsOtherTouched among newest from to row = (x : ℕ) × (from ≤ x) × (x < to) × (among (shape_for newest x) → ⊥) × ((place_by newest x).row ≡ row)

-- A write is cut: no row is written but those in which sectors of it stand that none of these shapes places. By these the list stands as before.
abbrev pub TornWritesGoOn : (sound : Type 0) (among : Shape → Type 0) → Type 0
TornWritesGoOn sound among = (scope : Scope) (given : Given) (old new : Members) (course : Course) (buffer : List ℕ) (c e : Contents) (list : ℕ → Sector) (first to : ℕ)
    → ArePlaced scope given old → is_reshaping old.newest ≡ true → IsMoved given old new → IsCourseOf old.newest course → to ≤ list_length old.newest
    → ((x : ℕ) → first ≤ x → x < to → covers (span_in course.window) x ≡ false)
    → AreOtherRowsKept (IsOtherTouched among old.newest first to) (reading_of new) c e
    → StandsInCourse sound among old course buffer c list → StandsInCourse sound among new course buffer e list

-- ---- the headers

-- Where a stop leaves nothing new of the backup, members that lost slots have the same stored.
abbrev pub StoredMove : Type 0
StoredMove = (scope : Scope) (given : Given) (old new : Members) (window : Window) (buffer : List ℕ) (d e : Disk) → IsMoved given old new → IsBackupKept scope window d e
    → IsStored scope old window buffer d → IsStored scope new window buffer e

-- Members that differ in spares have the same stored.
abbrev pub SparesLeaveStored : Type 0
SparesLeaveStored = (scope : Scope) (old new : Members) (window : Window) (buffer : List ℕ) (d : Disk) → DifferInSpares old new → IsStored scope old window buffer d → IsStored scope new window buffer d

-- Headers under each of which the window's section is active fit.
abbrev pub OpenHeadersFit : Type 0
OpenHeadersFit = (scope : Scope) (m : Members) (span : Span) (d : Disk) → IsOpenUnderAll scope m span d → AreHeadersFit scope m d
