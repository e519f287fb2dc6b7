-- The section of the backup that counts: that of the next window.
use Rattle.std.specs.Prelude.{ℕ, ◌&&◌, if◌then◌else◌, Option, Some, None}
use Rattle.raid_types.specs.declared.places.Span.{Span}
use Rattle.raid_types.specs.Shapes.{has_slot}
use Rattle.bank.specs.Tape.{Contents}
use Rattle.sb_read_laws.specs.sb_specs_Reading.{Scope, Reading, next_window}
use Rattle.bank_backup.specs.Section.{has_section}

-- The span of the active section: it is the next window of the reading, and the backup holds it.
abbrev pub section_for : Scope → Contents → Option ℕ → Option Span → Option Span
section_for scope c (Some backup) (Some span) =
    if has_slot scope.given backup && has_section scope.uuid (scope.sizes.sectors backup) (c backup) span then Some span else None
section_for scope c (Some backup) None = None
section_for scope c None span = None

abbrev pub active_section : Scope → Contents → Reading → Option Span
active_section scope c r = section_for scope c scope.backup (next_window r.newest)
