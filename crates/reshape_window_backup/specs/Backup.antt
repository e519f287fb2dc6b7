-- The slot of the backup that a window is stored in.
use Rattle.std.specs.Prelude.{◌≡◌, ℕ, ◌+◌, ◌-◌, ◌≤◌, true, List, Some}
use Rattle.stripe_region_read.specs.raid_types_the_Span.{Span}
use Rattle.stripe_region_read.specs.raid_types_Shapes.{has_slot}
use Rattle.reshape_progress.specs.sb_specs_Reading.{Scope}

-- The slot is the array's backup, one of those that were given, with room for the span.
pub record IsBackupFor (scope : Scope) (slot : ℕ) (uuid : List ℕ) (span : Span) : Type 0 where
  pub backup : scope.backup ≡ Some slot
  pub there : has_slot scope.given slot ≡ true
  pub array : scope.uuid ≡ uuid
  pub room : 8 + (span.hi - span.lo) ≤ scope.sizes.sectors slot
