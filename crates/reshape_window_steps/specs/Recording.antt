-- A window is recorded: what its copy has left by then, and what of the backup stays as it was.
use Rattle.std.specs.Prelude.{◌≡◌, ◌≢◌, ℕ, true, List, Some}
use Rattle.reshape_window_rows.specs.raid_types_the_Span.{Span}
use Rattle.reshape_window_rows.specs.raid_types_Sectors.{Sector}
use Rattle.reshape_window_rows.specs.bank_the_Operation.{Operation}
use Rattle.reshape_window_rows.specs.bank_Given.{Given}
use Rattle.reshape_window_rows.specs.bank_Tape.{Contents, IsIn}
use Rattle.reshape_window_rows.specs.reshape_geometry_Geometry.{rows}
use Rattle.reshape_window_rows.specs.reshape_geometry_Geometry as geometry
use Rattle.reshape_window_rows.specs.sb_specs_the_Members.{Members}
use Rattle.reshape_window_rows.specs.sb_specs_Reading.{Scope, is_clean, final_shape}
use Rattle.reshape_window_rows.specs.stripe_row_Rows.{reading_of}
use Rattle.reshape_window_rows.specs.stripe_list_Full.{RowStands}
use Rattle.reshape_window_rows.specs.crash_views_Regions.{DoWithout}
use Rattle.reshape_window_rows.specs.crash_views_Views.{Disk, Ledger, AreHeadersFit, IsTailZero}
use Rattle.reshape_window_rows.specs.crash_views_Windows.{ListStands, RowsStand, moved_past}
use Rattle.reshape_window_rows.specs.crash_safety_laws_Safety.{HasLiveSlot}
use Rattle.reshape_window_rows.specs.crash_safety_laws_Steady.{AreWritesAllowed}
use Rattle.reshape_window_rows.specs.array_members_Lacking.{AreHoldersFlushed}
use Rattle.reshape_window_rows.specs.array_members_Moving.{Grows, IsMoved}
use Rattle.reshape_window_rows.specs.sb_safe_updates_Named.{AreNamedMissing}

-- a stop leaves nothing new of any sector but superblocks
abbrev pub AreOthersFewer : Disk → Disk → Type 0
AreOthersFewer d e = (s k : ℕ) (v : Sector) → k ≢ 8 → IsIn (e s k) v → IsIn (d s k) v

-- The window is copied: its rows stand by the new shape, with their parity, and the list outside it, of allowed values; where the array is clean the
-- rows of these sectors stand too. And the headers fit, and behind the last window the list is zero in the tail.
pub record IsCopiedWindow (sound : Type 0) (scope : Scope) (told : Ledger) (m : Members) (span : Span) (list : ℕ → Sector) (c : Contents) (d : Disk) : Type 0 where
  pub allowed : AreWritesAllowed m told.values list
  pub window : (row : ℕ) → geometry.IsIn row (rows (final_shape m.newest) span.lo span.hi) → RowStands (reading_of m) c (final_shape m.newest) list row
  pub stands : ListStands (Some span) m c list
  pub rows_are : is_clean m.newest ≡ true → DoWithout m → sound → RowsStand (Some span) m c list
  pub headers : AreHeadersFit scope m d
  pub zeros : sound → IsTailZero (moved_past span m).newest list

-- The slots that hold roles were flushed, and what was lost by then was named, while the superblocks said the former position. The array did without
-- that, and then the position behind the window was recorded.
pub record IsRecorded (tells : Type 0) (given : Given) (span : Span) (old new : Members) (before after : List Operation) : Type 0 where
  pub mid : Members
  pub tape : List Operation
  pub lost : IsMoved given old mid
  pub flushed : tells → AreHoldersFlushed (reading_of mid) given tape
  pub named : HasLiveSlot mid → AreNamedMissing mid
  pub few : DoWithout mid
  pub moved : IsMoved given (moved_past span mid) new
  pub grows : Grows tells before tape × Grows tells tape after
