-- A critical window from its section to its record, by what a stop may leave at each of its marks.
use Rattle.std.specs.Prelude.{◌≡◌, ℕ, ◌+◌, ◌-◌, ◌<◌, ◌≤◌, true, Some}
use Rattle.crash_safety_laws.specs.raid_types_the_Span.{Span}
use Rattle.crash_safety_laws.specs.raid_types_Sectors.{Sector}
use Rattle.crash_safety_laws.specs.bank_Given.{Given}
use Rattle.crash_safety_laws.specs.bank_Tape.{Contents, IsIn}
use Rattle.crash_safety_laws.specs.reshape_geometry_Geometry.{rows}
use Rattle.crash_safety_laws.specs.reshape_geometry_Geometry as geometry
use Rattle.crash_safety_laws.specs.sb_specs_the_Members.{Members}
use Rattle.crash_safety_laws.specs.sb_specs_Reading.{Scope, is_clean, final_shape, list_length, next_window}
use Rattle.crash_safety_laws.specs.stripe_row_Rows.{reading_of}
use Rattle.crash_safety_laws.specs.stripe_list_Full.{DataStands, RowStands}
use Rattle.crash_safety_laws.specs.bank_backup_Section.{names_span}
use Rattle.crash_safety_laws.specs.crash_views_Regions.{backup_of, open_by, DoWithout}
use Rattle.crash_safety_laws.specs.crash_views_Views.{Disk, Ledger, IsTailZero, IsViewRight, IsSeenRight}
use Rattle.crash_safety_laws.specs.crash_views_Windows.{IsSomewhere, AreFewer, HasNoSection, IsStoring, IsNaming, IsCopying, IsUpdating, ListStands, RowsStand, AreHoldersFlushed, moved_past}
use Rattle.crash_safety_laws.specs.Updates.{IsReadInUpdate}

-- What the stretches of a window leave, one after another: its section is stored and flushed, named and flushed; its rows are copied, and the members flushed.
pub record IsWindowRun (scope : Scope) (told : Ledger) (m : Members) (span : Span) (plain header : Sector) (start stored kept named alone copied flushed : Disk) : Type 0 where
  pub next : next_window m.newest ≡ Some span
  pub none : HasNoSection scope m start
  pub storing : IsStoring scope start stored
  pub kept_is : AreFewer stored kept
  pub plain_is : IsIn (kept (backup_of scope) 0) plain
  pub section : (x : ℕ) → span.lo ≤ x → x < span.hi → (v : Sector) → IsIn (kept (backup_of scope) (8 + (x - span.lo))) v → IsIn (told.values x) v
  pub naming : IsNaming scope header kept named
  pub active : open_by scope m.newest header ≡ Some span
  pub names : names_span header span ≡ true
  pub alone_is : AreFewer named alone
  pub header_is : (v : Sector) → IsIn (alone (backup_of scope) 0) v → v ≡ header
  pub copying : IsCopying m span alone copied
  pub flushed_is : AreFewer copied flushed
  pub some : IsSomewhere start × IsSomewhere kept × IsSomewhere alone × IsSomewhere flushed

-- What stands in the end: the list outside the window, and the window's rows by the new shape; where the array is clean also their parity. Behind the last window
-- the list is zero in the tail.
pub record IsWindowStanding (sound : Type 0) (told : Ledger) (m : Members) (span : Span) (c : Contents) (list : ℕ → Sector) (d : Disk) : Type 0 where
  pub flushed : AreHoldersFlushed m c d
  pub allowed : (x : ℕ) → x < list_length m.newest → IsIn (told.values x) (list x)
  pub list_is : ListStands (Some span) m c list
  pub window : (row : ℕ) → geometry.IsIn row (rows (final_shape m.newest) span.lo span.hi) → DataStands (reading_of m) c (final_shape m.newest) list row
  pub zeros : sound → IsTailZero (moved_past span m).newest list
  pub rows_are : is_clean m.newest ≡ true → DoWithout m → sound → RowsStand (Some span) m c list
  pub parity : is_clean m.newest ≡ true → DoWithout m → sound → (row : ℕ) → geometry.IsIn row (rows (final_shape m.newest) span.lo span.hi) → RowStands (reading_of m) c (final_shape m.newest) list row

-- A view that was right before the window is right after each of its stretches.
pub record IsRightThroughout (sound : Type 0) (scope : Scope) (given : Given) (told : Ledger) (m : Members) (stored kept named alone copied flushed : Disk) : Type 0 where
  pub at_stored : IsViewRight sound scope given told m stored
  pub at_kept : IsViewRight sound scope given told m kept
  pub at_named : IsViewRight sound scope given told m named
  pub at_alone : IsViewRight sound scope given told m alone
  pub at_copied : IsViewRight sound scope given told m copied
  pub at_flushed : IsViewRight sound scope given told m flushed

abbrev pub WindowsStayRight : (sound : Type 0) → Type 0
WindowsStayRight sound = (scope : Scope) (given : Given) (told : Ledger) (m : Members) (span : Span) (plain header : Sector) (start stored kept named alone copied flushed : Disk)
    → IsWindowRun scope told m span plain header start stored kept named alone copied flushed → IsViewRight sound scope given told m start
    → IsRightThroughout sound scope given told m stored kept named alone copied flushed

-- And each image in the update that records it is seen right, whichever slots are lost in that: with the position before the window it is read from the
-- section, and with the one behind it from the new rows.
abbrev pub RecordsAreSeenRight : (sound : Type 0) → Type 0
RecordsAreSeenRight sound = (scope : Scope) (given : Given) (told : Ledger) (m : Members) (span : Span) (plain header : Sector) (start stored kept named alone copied flushed : Disk)
    (c : Contents) (list : ℕ → Sector) (last : Disk) (image : Contents)
    → IsWindowRun scope told m span plain header start stored kept named alone copied flushed → IsViewRight sound scope given told m start
    → IsWindowStanding sound told m span c list flushed → IsUpdating scope flushed last → IsReadInUpdate scope given told told m (moved_past span m) image
    → IsSeenRight sound scope given told last image
