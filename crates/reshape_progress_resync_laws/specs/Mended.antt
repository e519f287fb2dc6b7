-- The list in the course of a reshape while a resync of the array is pending: how far its rows stand, and what its steps and those of a window make of it.
use Rattle.std.specs.Prelude.{◌≡◌, ◌⊎◌, ◌↔◌, ℕ, ◌+◌, ◌*◌, ◌/◌, ◌<◌, ◌≤◌, Bool, true, false, List, length, Option, Some, None, IsSome, IfSome, ⊤}
use Rattle.reshape_progress.specs.raid_types_the_Shape.{Shape}
use Rattle.reshape_progress.specs.raid_types_the_Span.{Span}
use Rattle.reshape_progress.specs.raid_types_Sectors.{Sector, IsSector}
use Rattle.reshape_progress.specs.bank_Given.{Given}
use Rattle.reshape_progress.specs.bank_Tape.{Contents}
use Rattle.reshape_progress.specs.sb_codec_the_Sb.{Sb}
use Rattle.reshape_progress.specs.raid_layout_Layout.{place}
use Rattle.reshape_progress.specs.reshape_geometry_Geometry.{stripes, is_critical}
use Rattle.reshape_progress.specs.sb_specs_the_Members.{Members}
use Rattle.reshape_progress.specs.sb_specs_Reading.{Scope, is_reshaping, is_backward, shape_of, final_shape, list_length, next_window}
use Rattle.reshape_progress.specs.stripe_row_Rows.{reading_of}
use Rattle.reshape_progress.specs.stripe_list_Full.{AreWholeIn, RowStands}
use Rattle.reshape_progress.specs.stripe_list_Writing.{IsWritten}
use Rattle.reshape_progress.specs.history_Stands.{covers}
use Rattle.reshape_progress.specs.crash_views_Regions.{AreShapesFit, ArePlaced}
use Rattle.reshape_progress.specs.crash_views_Windows.{AreTailsStanding, moved_past}
use Rattle.reshape_progress.specs.crash_safety_laws_Marking.{AreOthersPresent}
use Rattle.reshape_progress.specs.array_members_Placed.{IsPlaced}
use Rattle.reshape_progress.specs.array_members_Moving.{IsMoved}
use Rattle.reshape_progress.specs.array_members_Lacking.{IsOfStripe, AreOtherRowsKept}
use Rattle.stripe_region_resync.specs.stripe_region_read_Stretches.{ListStandsIn, RowsStandIn}
use Rattle.stripe_region_resync.specs.stripe_region_write_Runs.{IsListTouched}
use Rattle.stripe_region_resync.specs.Mends.{low_shape, low_stripes, resync_stripes, stripe_after, relied_sector, IsResyncRow, AreEndsStanding}
use Rattle.reshape_progress.specs.reshape_request_the_Window.{Window}
use Rattle.reshape_progress.specs.reshape_request_the_Window_TheVariants.{Closed, Entered, Unsure}
use Rattle.reshape_progress.specs.declared.course.Course.{Course}
use Rattle.reshape_progress.specs.Course.{IsCourseOf, hidden_in, span_in, AnyShape, StandsInCourse}
use Rattle.reshape_progress.specs.Laws.{DifferInSpares, entered, closed, next_stripe, IsLeftRow, AreStripesStanding, IsOtherTouched}

-- ---- what stands

-- no window is entered
abbrev pub IsAside : Window → Type 0
IsAside Closed = ⊤
IsAside (Entered span copied sectioned) = ⊥
IsAside (Unsure span) = ⊤

-- a sector of the list, or one with a place in the stripes of the region below the position: the last of these may go past the list's end
abbrev pub IsResyncSector : Sb → ℕ → Type 0
IsResyncSector newest x = (x < list_length newest) ⊎ ((place (low_shape newest) x).row < low_stripes newest * (low_shape newest).chunk)

-- The list stands in the course by these shapes; where the epoch opened sound, so does the row of each of their sectors below which parity is relied on. While a
-- resync is pending and no window is entered, it stands behind its end too, in the last stripe below the position; and where the epoch opened sound, the sectors
-- that the resync reads are whole.
pub record StandsSynced (sound : Type 0) (among : Shape → Type 0) (resync : Option ℕ) (m : Members) (course : Course) (buffer : List ℕ) (c : Contents) (list : ℕ → Sector) : Type 0 where
  pub in_course : StandsInCourse ⊥ among m course buffer c list
  pub ends : IsSome resync → IsAside course.window → among (low_shape m.newest) → AreEndsStanding m c list
  pub whole : IsSome resync → sound → (x : ℕ) → IsResyncSector m.newest x → IsSector (list x)
  pub rows : sound → RowsStandIn among (hidden_in course.window) (relied_sector m.newest resync) m c list

-- ---- laws

-- Where none is pending, that is what stands in a course.
abbrev pub NoneIsPending : (sound : Type 0) (among : Shape → Type 0) → Type 0
NoneIsPending sound among = (m : Members) (course : Course) (buffer : List ℕ) (c : Contents) (list : ℕ → Sector)
    → StandsInCourse sound among m course buffer c list ↔ StandsSynced sound among None m course buffer c list

-- What stands by some shapes stands by fewer.
abbrev pub FewerShapesStand : (sound : Type 0) → Type 0
FewerShapesStand sound = (among fewer : Shape → Bool) (resync : Option ℕ) (m : Members) (course : Course) (buffer : List ℕ) (c : Contents) (list : ℕ → Sector)
    → ((shape : Shape) → fewer shape ≡ true → among shape ≡ true)
    → StandsSynced sound (λ shape. among shape ≡ true) resync m course buffer c list → StandsSynced sound (λ shape. fewer shape ≡ true) resync m course buffer c list

-- Before any stripe is mended no row is asked: so an opening finds the list.
abbrev pub ResyncsBegin : (sound : Type 0) (among : Shape → Type 0) → Type 0
ResyncsBegin sound among = (m : Members) (course : Course) (buffer : List ℕ) (c : Contents) (list : ℕ → Sector) → AreShapesFit m.newest
    → StandsInCourse ⊥ among m course buffer c list → (IsAside course.window → among (low_shape m.newest) → AreEndsStanding m c list)
    → (sound → (x : ℕ) → IsResyncSector m.newest x → IsSector (list x)) → StandsSynced sound among (Some 0) m course buffer c list

-- What stands in the tail stands behind the list's end, but where a backward reshape is at its first position.
abbrev pub TailsAreEnds : Type 0
TailsAreEnds = (m : Members) (c : Contents) (list : ℕ → Sector) → AreShapesFit m.newest → is_reshaping m.newest ≡ true
    → (is_backward m.newest ≡ false) ⊎ (m.newest.reshape_position < list_length m.newest) → AreTailsStanding m c list → AreEndsStanding m c list

-- Members that lost slots, where all but the superblocks is as it was, stand in the same course.
abbrev pub SyncedCoursesMove : (sound : Type 0) (among : Shape → Type 0) → Type 0
SyncedCoursesMove sound among = (given : Given) (old new : Members) (resync : Option ℕ) (course : Course) (buffer : List ℕ) (c e : Contents) (list : ℕ → Sector) → IsPlaced given old → IsMoved given old new
    → AreOthersPresent c e → StandsSynced sound among resync old course buffer c list → StandsSynced sound among resync new course buffer e list

-- So do members that differ in spares.
abbrev pub SparesLeaveSynced : (sound : Type 0) (among : Shape → Type 0) → Type 0
SparesLeaveSynced sound among = (old new : Members) (resync : Option ℕ) (course : Course) (buffer : List ℕ) (c : Contents) (list : ℕ → Sector) → DifferInSpares old new
    → StandsSynced sound among resync old course buffer c list → StandsSynced sound among resync new course buffer c list

-- ---- a step of the resync

-- What a call leaves that mends the stripe behind so many, whether it is done or not: rows of that stripe are written and no others, and the list stands on.
pub record IsResyncing (among : Shape → Type 0) (old new : Members) (course : Course) (mended : ℕ) (c e : Contents) (list : ℕ → Sector) : Type 0 where
  pub others : AreOtherRowsKept (IsResyncRow old.newest mended) (reading_of new) c e
  pub stands : ListStandsIn among (hidden_in course.window) old c list → ListStandsIn among (hidden_in course.window) new e list
  pub tail : among (final_shape old.newest) → AreTailsStanding old c list → AreTailsStanding new e list
  pub ends : among (low_shape old.newest) → AreEndsStanding old c list → AreEndsStanding new e list
  pub kept : RowsStandIn among (hidden_in course.window) (relied_sector old.newest (Some mended)) old c list
      → RowsStandIn among (hidden_in course.window) (relied_sector old.newest (Some mended)) new e list

-- and where it is done, its rows stand
abbrev pub IsSynced : (Shape → Type 0) → Members → Members → Course → ℕ → Contents → Contents → (ℕ → Sector) → Type 0
IsSynced among old new course mended c e list = ((row : ℕ) → IsResyncRow old.newest mended row → AreWholeIn (stripe_after old.newest mended).shape list row)
    → ListStandsIn among (hidden_in course.window) old c list → AreEndsStanding old c list
    → RowsStandIn among (hidden_in course.window) (relied_sector old.newest (Some mended)) old c list
    → RowsStandIn among (hidden_in course.window) (relied_sector old.newest (Some (mended + 1))) new e list

-- A stripe is mended, where no window is entered: all stands on as before; and where it is done, with it mended.
abbrev pub ResyncsGoOn : (sound : Type 0) (among : Shape → Type 0) → Type 0
ResyncsGoOn sound among = (given : Given) (old new : Members) (course : Course) (mended : ℕ) (buffer : List ℕ) (c e : Contents) (list : ℕ → Sector)
    → IsPlaced given old → IsMoved given old new → IsCourseOf old.newest course → IsAside course.window → mended < resync_stripes old.newest
    → IsResyncing among old new course mended c e list → StandsSynced sound among (Some mended) old course buffer c list
    → StandsSynced sound among (Some mended) new course buffer e list
    × (among (low_shape old.newest) → IsSynced among old new course mended c e list → StandsSynced sound among (Some (mended + 1)) new course buffer e list)

-- With all stripes mended, none is pending any more.
abbrev pub ResyncsEnd : (sound : Type 0) (among : Shape → Type 0) → Type 0
ResyncsEnd sound among = (m : Members) (course : Course) (buffer : List ℕ) (c : Contents) (list : ℕ → Sector) → AreShapesFit m.newest
    → StandsSynced sound among (Some (resync_stripes m.newest)) m course buffer c list → StandsSynced sound among None m course buffer c list

-- ---- the steps of a window that an opening found, before any stripe is mended

-- none is pending, or no stripe is mended
abbrev pub IsUnsynced : Option ℕ → Type 0
IsUnsynced resync = IfSome resync (λ mended. mended ≡ 0)

-- a stripe of the window is copied
abbrev pub SyncedCopiesGoOn : (sound : Type 0) (among : Shape → Type 0) → Type 0
SyncedCopiesGoOn sound among = (given : Given) (old new : Members) (resync : Option ℕ) (span : Span) (copied : ℕ) (sectioned : Bool) (buffer : List ℕ) (c e : Contents) (list : ℕ → Sector)
    → IsPlaced given old → IsMoved given old new → IsUnsynced resync → next_window old.newest ≡ Some span → copied < stripes (final_shape old.newest) span.lo span.hi
    → (sectioned ≡ false → is_critical (shape_of old.newest) (final_shape old.newest) old.newest.size (is_backward old.newest) span ≡ false)
    → AreOtherRowsKept (IsOfStripe (final_shape old.newest) (next_stripe old span copied)) (reading_of new) c e
    → StandsSynced sound among resync old (entered span copied sectioned) buffer c list
    → StandsSynced sound among resync new (entered span copied sectioned) buffer e list
    × (((row : ℕ) → IsOfStripe (final_shape old.newest) (next_stripe old span copied) row → RowStands (reading_of new) e (final_shape old.newest) list row)
    → StandsSynced sound among resync new (entered span (copied + 1) sectioned) buffer e list)

-- those that are left are
abbrev pub SyncedRestsGoOn : (sound : Type 0) (among : Shape → Type 0) → Type 0
SyncedRestsGoOn sound among = (given : Given) (old new : Members) (resync : Option ℕ) (span : Span) (copied : ℕ) (sectioned : Bool) (buffer : List ℕ) (c e : Contents) (list : ℕ → Sector)
    → IsPlaced given old → IsMoved given old new → IsUnsynced resync → next_window old.newest ≡ Some span
    → (sectioned ≡ false → is_critical (shape_of old.newest) (final_shape old.newest) old.newest.size (is_backward old.newest) span ≡ false)
    → AreOtherRowsKept (IsLeftRow old span copied) (reading_of new) c e
    → StandsSynced sound among resync old (entered span copied sectioned) buffer c list
    → StandsSynced sound among resync new (entered span copied sectioned) buffer e list
    × (AreStripesStanding old new span e list → StandsSynced sound among resync new (entered span (stripes (final_shape new.newest) span.lo span.hi) sectioned) buffer e list)

-- it is recorded
abbrev pub SyncedRecordsClose : (sound : Type 0) → Type 0
SyncedRecordsClose sound = (scope : Scope) (given : Given) (old new : Members) (resync : Option ℕ) (span : Span) (sectioned : Bool) (buffer : List ℕ) (c e : Contents) (list : ℕ → Sector)
    → ArePlaced scope given old → IsPlaced given old → IsUnsynced resync → next_window old.newest ≡ Some span → IsMoved given (moved_past span old) new → AreOthersPresent c e
    → StandsSynced sound AnyShape resync old (entered span (stripes (final_shape old.newest) span.lo span.hi) sectioned) buffer c list
    → StandsSynced sound AnyShape resync new (closed 0) buffer e list

-- or both in one call
abbrev pub SyncedFinishesClose : (sound : Type 0) → Type 0
SyncedFinishesClose sound = (given : Given) (old new : Members) (resync : Option ℕ) (span : Span) (copied : ℕ) (sectioned : Bool) (buffer : List ℕ) (c e : Contents) (list : ℕ → Sector)
    → IsPlaced given old → IsUnsynced resync → IsMoved given (moved_past span old) new → next_window old.newest ≡ Some span
    → (sectioned ≡ false → is_critical (shape_of old.newest) (final_shape old.newest) old.newest.size (is_backward old.newest) span ≡ false)
    → AreOtherRowsKept (IsLeftRow old span copied) (reading_of new) c e → AreStripesStanding old new span e list
    → StandsSynced sound AnyShape resync old (entered span copied sectioned) buffer c list → StandsSynced sound AnyShape resync new (closed 0) buffer e list

-- ---- writes

-- Sectors of the list are written, none of them in the window under way, and no row but those in which one of them stands. The list with them stands in the same
-- course, if it stands on the members, in the tail and behind its end, and where the epoch opened sound its sectors are whole, and the rows that parity is relied on in stand.
abbrev pub SyncedWritesGoOn : (sound : Type 0) (among : Shape → Type 0) → Type 0
SyncedWritesGoOn sound among = (given : Given) (old new : Members) (resync : Option ℕ) (course : Course) (buffer : List ℕ) (c e : Contents) (list list' : ℕ → Sector) (first : ℕ) (from : List ℕ)
    → IsPlaced given old → IsMoved given old new → IsCourseOf old.newest course → IsWritten list list' first from → first + length from / 512 ≤ list_length old.newest
    → ((x : ℕ) → first ≤ x → x < first + length from / 512 → covers (span_in course.window) x ≡ false)
    → AreOtherRowsKept (IsListTouched old.newest first (first + length from / 512)) (reading_of new) c e
    → ListStandsIn among (hidden_in course.window) new e list' → (among (final_shape new.newest) → AreTailsStanding new e list')
    → (IsSome resync → IsAside course.window → among (low_shape new.newest) → AreEndsStanding new e list') → (IsSome resync → sound → (x : ℕ) → IsResyncSector new.newest x → IsSector (list' x))
    → (sound → RowsStandIn among (hidden_in course.window) (relied_sector new.newest resync) new e list')
    → StandsSynced sound among resync old course buffer c list → StandsSynced sound among resync new course buffer e list'

-- A write is cut: no row is written but those in which sectors of it stand that none of these shapes places. By these the list stands as before.
abbrev pub SyncedTornWritesGoOn : (sound : Type 0) (among : Shape → Type 0) → Type 0
SyncedTornWritesGoOn sound among = (scope : Scope) (given : Given) (old new : Members) (resync : Option ℕ) (course : Course) (buffer : List ℕ) (c e : Contents) (list : ℕ → Sector) (first to : ℕ)
    → ArePlaced scope given old → is_reshaping old.newest ≡ true → IsMoved given old new → IsCourseOf old.newest course → to ≤ list_length old.newest
    → ((x : ℕ) → first ≤ x → x < to → covers (span_in course.window) x ≡ false)
    → AreOtherRowsKept (IsOtherTouched among old.newest first to) (reading_of new) c e
    → StandsSynced sound among resync old course buffer c list → StandsSynced sound among resync new course buffer e list
