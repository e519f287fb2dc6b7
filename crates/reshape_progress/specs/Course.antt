-- How far a reshape has come: its window, what headers a stop leaves of it in the backup, and the rows that stand by the new shape already.
use Rattle.std.specs.Prelude.{◌≡◌, ℕ, ◌+◌, ◌-◌, ◌*◌, ◌/◌, ◌<◌, ◌≤◌, true, false, List, Option, Some, None, ⊤}
use Rattle.reshape_request.specs.raid_types_the_Shape.{Shape}
use Rattle.reshape_request.specs.raid_types_the_Span.{Span}
use Rattle.reshape_request.specs.raid_types_Sectors.{Sector, zero_sector}
use Rattle.reshape_request.specs.raid_types_Shapes.{stripe_sectors}
use Rattle.reshape_request.specs.bank_Tape.{Contents, IsIn}
use Rattle.reshape_request.specs.sb_codec_the_Sb.{Sb}
use Rattle.reshape_request.specs.raid_parity_Rows.{sector_of}
use Rattle.reshape_request.specs.reshape_geometry_Geometry.{ceiling, stripes, is_critical, zeroed_stripes}
use Rattle.reshape_window_steps.specs.sb_specs_the_Members.{Members}
use Rattle.reshape_window_steps.specs.sb_specs_Reading.{Scope, is_backward, shape_of, final_shape, list_length, next_window, data_offset_of}
use Rattle.reshape_window_steps.specs.stripe_row_Rows.{reading_of, held_slot}
use Rattle.reshape_window_steps.specs.stripe_list_Full.{RowStands}
use Rattle.reshape_window_steps.specs.history_Stands.{shape_for}
use Rattle.reshape_window_steps.specs.crash_views_Regions.{backup_of, place_by}
use Rattle.reshape_window_steps.specs.crash_views_Views.{AreHeadersFit, Disk}
use Rattle.reshape_window_steps.specs.crash_views_Windows.{HasNoSection, IsShown, AreTailsStanding}
use Rattle.reshape_window_steps.specs.crash_views_Backups.{IsOpenUnderAll, IsOpenOrNot}
use Rattle.reshape_window_steps.specs.crash_reshape_laws_Grown.{IsZeroPast}
use Rattle.reshape_window_steps.specs.reshape_window_rows_Copies.{HasWindow, IsRoomFor}
use Rattle.reshape_window_steps.specs.Zeroing.{IsThrough}
use Rattle.reshape_progress.specs.declared.course.Course.{Course}
use Rattle.reshape_request.specs.declared.window.Window.{Window}
use Rattle.reshape_request.specs.declared.window.Window.TheVariants.{Closed, Entered, Unsure}

-- ---- the window

-- The window is the next one; at most all its stripes are copied, and where it is critical its section is stored.
abbrev pub IsWindowOf : Sb → Window → Type 0
IsWindowOf newest Closed = ⊤
IsWindowOf newest (Entered span copied sectioned) = (next_window newest ≡ Some span) × (copied ≤ stripes (final_shape newest) span.lo span.hi)
    × (is_critical (shape_of newest) (final_shape newest) newest.size (is_backward newest) span ≡ true → sectioned ≡ true)
IsWindowOf newest (Unsure span) = next_window newest ≡ Some span

-- the span that is read from the section alone, as long as its rows may be written: that of an entered window whose section is stored
abbrev pub hidden_in : Window → Option Span
hidden_in Closed = None
hidden_in (Entered span copied true) = Some span
hidden_in (Entered span copied false) = None
hidden_in (Unsure span) = None

-- the span of the window under way, hidden or not
abbrev pub span_in : Window → Option Span
span_in Closed = None
span_in (Entered span copied sectioned) = Some span
span_in (Unsure span) = Some span

-- the buffer has the sectors of the window under way
abbrev pub HasWindowIn : Window → List ℕ → (ℕ → Sector) → Type 0
HasWindowIn Closed buffer list = ⊤
HasWindowIn (Entered span copied sectioned) buffer list = IsRoomFor span buffer × HasWindow span buffer list
HasWindowIn (Unsure span) buffer list = IsRoomFor span buffer × HasWindow span buffer list

-- ---- the backup's header

-- By each header that a stop leaves no section is active, or the window's is; of an unsure window either.
abbrev pub IsStoredAs : Scope → Members → Window → Disk → Type 0
IsStoredAs scope m Closed d = HasNoSection scope m d
IsStoredAs scope m (Entered span copied true) d = IsOpenUnderAll scope m span d
IsStoredAs scope m (Entered span copied false) d = HasNoSection scope m d
IsStoredAs scope m (Unsure span) d = IsOpenOrNot scope m span d

-- the section's sectors are the buffer's alone, where one is stored
abbrev pub HasSection : Scope → Window → List ℕ → Disk → Type 0
HasSection scope Closed buffer d = ⊤
HasSection scope (Entered span copied true) buffer d = (i : ℕ) → i < span.hi - span.lo → (v : Sector) → IsIn (d (backup_of scope) (8 + i)) v → v ≡ sector_of buffer i
HasSection scope (Entered span copied false) buffer d = ⊤
HasSection scope (Unsure span) buffer d = (i : ℕ) → i < span.hi - span.lo → (v : Sector) → IsIn (d (backup_of scope) (8 + i)) v → v ≡ sector_of buffer i

-- so it is, and each section that a header names is that of the next window, or lies in the new region
pub record IsStored (scope : Scope) (m : Members) (window : Window) (buffer : List ℕ) (d : Disk) : Type 0 where
  pub section : IsStoredAs scope m window d
  pub sectors : HasSection scope window buffer d
  pub headers : AreHeadersFit scope m d

-- a stop leaves nothing new of the backup, where a section is stored
abbrev pub IsSectionKept : Scope → Window → Disk → Disk → Type 0
IsSectionKept scope Closed d e = ⊤
IsSectionKept scope (Entered span copied true) d e = (k : ℕ) (v : Sector) → IsIn (e (backup_of scope) k) v → IsIn (d (backup_of scope) k) v
IsSectionKept scope (Entered span copied false) d e = ⊤
IsSectionKept scope (Unsure span) d e = (k : ℕ) (v : Sector) → IsIn (e (backup_of scope) k) v → IsIn (d (backup_of scope) k) v

-- nor of its header
pub record IsBackupKept (scope : Scope) (window : Window) (d e : Disk) : Type 0 where
  pub headers : (v : Sector) → IsIn (e (backup_of scope) 0) v → IsIn (d (backup_of scope) 0) v
  pub section : IsSectionKept scope window d e

-- ---- rows

-- a row of so many stripes of a shape, from this stripe on
abbrev pub IsOfStripes : Shape → ℕ → ℕ → ℕ → Type 0
IsOfStripes shape first count row = (first * shape.chunk ≤ row) × (row < (first + count) * shape.chunk)

-- a row of the window that is copied
abbrev pub IsCopiedRow : Sb → Window → ℕ → Type 0
IsCopiedRow newest Closed row = ⊥
IsCopiedRow newest (Entered span copied sectioned) row = IsOfStripes (final_shape newest) (span.lo / stripe_sectors (final_shape newest)) copied row
IsCopiedRow newest (Unsure span) row = ⊥

-- the first stripe behind the list
abbrev pub past_stripe : Sb → ℕ
past_stripe newest = ceiling (list_length newest) (stripe_sectors (final_shape newest))

-- a row behind the list that is zeroed
abbrev pub IsZeroedRow : Sb → ℕ → ℕ → Type 0
IsZeroedRow newest zeroed row = IsOfStripes (final_shape newest) (past_stripe newest) zeroed row

-- ---- what is kept

-- Stripes are zeroed only once the reshape has gone through the list, and no more than there are.
pub record IsCourseOf (newest : Sb) (course : Course) : Type 0 where
  pub window : IsWindowOf newest course.window
  pub through : 0 < course.zeroed → IsThrough newest
  pub few : course.zeroed ≤ zeroed_stripes (shape_of newest) (final_shape newest) newest.size (is_backward newest)

-- whatever the shape
abbrev pub AnyShape : Shape → Type 0
AnyShape shape = ⊤

-- The list stands on the members wherever one of these shapes places it, but for the span that is hidden, whose sectors the buffer has; forward it is zero behind
-- its end. If the new shape is one of these, the rows that are copied stand by it, with their parity; so does the tail, and the zeroed rows as zeros. Where the
-- epoch opened sound, so does the row of each sector that one of these places and that isn't hidden.
pub record StandsInCourse (sound : Type 0) (among : Shape → Type 0) (m : Members) (course : Course) (buffer : List ℕ) (c : Contents) (list : ℕ → Sector) : Type 0 where
  pub stands : (x slot : ℕ) → among (shape_for m.newest x) → IsShown (hidden_in course.window) m.newest x
      → held_slot (reading_of m) (place_by m.newest x).role (place_by m.newest x).row ≡ Some slot → c slot (data_offset_of (reading_of m) slot + (place_by m.newest x).row) ≡ list x
  pub window : HasWindowIn course.window buffer list
  pub zeros : is_backward m.newest ≡ false → IsZeroPast (list_length m.newest) list
  pub copied : among (final_shape m.newest) → (row : ℕ) → IsCopiedRow m.newest course.window row → RowStands (reading_of m) c (final_shape m.newest) list row
  pub tail : among (final_shape m.newest) → AreTailsStanding m c list
  pub zeroed : among (final_shape m.newest) → (row : ℕ) → IsZeroedRow m.newest course.zeroed row → RowStands (reading_of m) c (final_shape m.newest) (λ x. zero_sector) row
  pub rows : sound → (x : ℕ) → among (shape_for m.newest x) → IsShown (hidden_in course.window) m.newest x → RowStands (reading_of m) c (shape_for m.newest x) list (place_by m.newest x).row
