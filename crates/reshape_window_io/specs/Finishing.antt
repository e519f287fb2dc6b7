-- The open window of a reshape, as an array keeps it between calls, and how it is finished.
use Rattle.std.specs.Prelude.{◌≡◌, ℕ, ◌+◌, ◌*◌, ◌/◌, ◌<◌, ◌≤◌, true, List, Some}
use Rattle.stripe_region_read.specs.raid_types_the_Shape.{Shape}
use Rattle.stripe_region_read.specs.raid_types_the_Span.{Span}
use Rattle.stripe_region_read.specs.raid_types_Sectors.{Sector}
use Rattle.stripe_region_read.specs.raid_types_Shapes.{stripe_sectors}
use Rattle.stripe_region_read.specs.bank_Tape.{Contents}
use Rattle.stripe_region_read.specs.reshape_geometry_Geometry.{rows}
use Rattle.stripe_region_read.specs.sb_specs_the_Members.{Members}
use Rattle.stripe_region_read.specs.sb_specs_Reading.{Scope, is_clean, final_shape}
use Rattle.reshape_window_steps.specs.stripe_row_Rows.{reading_of}
use Rattle.reshape_window_steps.specs.stripe_list_Full.{RowStands}
use Rattle.reshape_window_steps.specs.crash_views_Regions.{DoWithout}
use Rattle.reshape_window_steps.specs.crash_views_Views.{AreHeadersFit, IsTailZero, Disk, Ledger}
use Rattle.reshape_window_steps.specs.crash_views_Windows.{IsCopyable, ListStands, RowsStand, moved_past}
use Rattle.reshape_window_steps.specs.crash_safety_laws_Steady.{AreWritesAllowed}
use Rattle.reshape_window_steps.specs.reshape_window_rows_Copies.{tail_of, IsCopied}

-- ---- the stripes of a window

-- the row is of the first so many stripes of this shape that the span touches
abbrev pub IsOfFirst : Shape → Span → ℕ → ℕ → Type 0
IsOfFirst shape span count row = (span.lo / stripe_sectors shape * shape.chunk ≤ row) × (row < (span.lo / stripe_sectors shape + count) * shape.chunk)

-- it is of the other ones
abbrev pub IsOfRest : Shape → Span → ℕ → ℕ → Type 0
IsOfRest shape span count row = ((span.lo / stripe_sectors shape + count) * shape.chunk ≤ row) × (row < (rows shape span.lo span.hi).hi)

-- so many stripes are copied: each of their rows stands by this shape, with its parity, as the list
abbrev pub AreStripesCopied : Shape → Span → ℕ → Members → Contents → (ℕ → Sector) → Type 0
AreStripesCopied shape span count m c list = (row : ℕ) → IsOfFirst shape span count row → RowStands (reading_of m) c shape list row

-- ---- the window

-- The next window may be copied, so many of its stripes are, and the buffer has its sectors of the list, which is zero in its tail, and of allowed
-- values. Outside the window the list stands, and where the array is clean the rows of these sectors too. The headers fit.
pub record IsOpenWindow (sound : Type 0) (scope : Scope) (told : Ledger) (m : Members) (span : Span) (buffer : List ℕ) (copied : ℕ) (list : ℕ → Sector) (c : Contents) (d : Disk) : Type 0 where
  pub able : IsCopyable scope m span d
  pub written : AreStripesCopied (final_shape m.newest) span copied m c list
  pub buffered : IsCopied span buffer (tail_of m.newest) list
  pub allowed : AreWritesAllowed m told.values list
  pub stands : ListStands (Some span) m c list
  pub rows_are : is_clean m.newest ≡ true → DoWithout m → sound → RowsStand (Some span) m c list
  pub headers : AreHeadersFit scope m d
  pub zeros : sound → IsTailZero (moved_past span m).newest list
