-- The window that an opening finds of a reshape, by what the backup holds.
use Rattle.std.specs.Prelude.{◌≡◌, ℕ, ◌+◌, ◌-◌, ◌*◌, ◌<◌, true, List, [], take, Option, Some, None, ⊤}
use Rattle.array_reshaping_state.specs.raid_types_the_Span.{Span}
use Rattle.array_reshaping_state.specs.raid_types_Sectors.{Sector}
use Rattle.array_reshaping_state.specs.raid_types_Shapes.{has_slot}
use Rattle.array_reshaping_state.specs.sb_codec_the_Sb.{Sb}
use Rattle.array_reshaping_state.specs.bank_Given.{Given, sizes}
use Rattle.array_reshaping_state.specs.raid_parity_Rows.{sector_of}
use Rattle.array_reshaping_state.specs.sb_specs_Reading.{Scope}
use Rattle.array_reshaping_state.specs.reshape_window_rows_Copies.{IsRoomFor}
use Rattle.array_reshaping_state.specs.reshape_request_the_Window.{Window}
use Rattle.array_reshaping_state.specs.reshape_request_the_Window_TheVariants.{Closed, Entered, Unsure}

-- An array with this newest superblock is looked for in slots of the bank, of which this one is its backup.
pub record IsLookedFor (bank : Given) (newest : Sb) (backup : ℕ) (scope : Scope) : Type 0 where
  pub uuid : scope.uuid ≡ newest.set_uuid
  pub backup_is : scope.backup ≡ Some backup
  pub given : has_slot scope.given backup ≡ true
  pub sizes_are : scope.sizes ≡ sizes bank

-- the window whose section is active, entered, with nothing copied; where none is active, no window is open
abbrev pub window_for : Option Span → Window
window_for None = Closed
window_for (Some span) = Entered span 0 true

-- the bytes of a buffer that have the window's sectors: its first ones
abbrev pub bytes_for : Window → List ℕ → List ℕ
bytes_for Closed buffer = []
bytes_for (Entered span copied sectioned) buffer = take (512 * (span.hi - span.lo)) buffer
bytes_for (Unsure span) buffer = take (512 * (span.hi - span.lo)) buffer

-- these bytes are the sectors of the section that the slot has behind its header
pub record AreOfSection (slot : ℕ → Sector) (span : Span) (bytes : List ℕ) : Type 0 where
  pub room : IsRoomFor span bytes
  pub each : (i : ℕ) → i < span.hi - span.lo → sector_of bytes i ≡ slot (8 + i)

-- so it is of an entered window; an opening leaves none of which nothing is sure
abbrev pub IsFoundIn : (ℕ → Sector) → Window → List ℕ → Type 0
IsFoundIn slot Closed bytes = ⊤
IsFoundIn slot (Entered span copied sectioned) bytes = AreOfSection slot span bytes
IsFoundIn slot (Unsure span) bytes = ⊥
