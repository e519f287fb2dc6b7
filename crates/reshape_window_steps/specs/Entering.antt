-- A window is entered: its sectors are read, and its section is stored and named.
use Rattle.std.specs.Prelude.{◌≡◌, ℕ, ◌+◌, ◌-◌, ◌<◌, ◌≤◌, Bool, true, false, List, Some, None, Result, Ok, Err, ⊤}
use Rattle.reshape_window_rows.specs.raid_types_the_Shape.{Shape}
use Rattle.reshape_window_rows.specs.raid_types_the_Span.{Span}
use Rattle.reshape_window_rows.specs.raid_types_Sectors.{Sector}
use Rattle.reshape_window_rows.specs.raid_types_Shapes.{has_slot, tolerance}
use Rattle.reshape_window_rows.specs.bank_Tape.{Contents}
use Rattle.reshape_window_rows.specs.sb_specs_the_Members.{Members}
use Rattle.reshape_window_rows.specs.sb_specs_Reading.{Scope, Reading, shape_of}
use Rattle.reshape_window_rows.specs.stripe_row_Rows.{reading_of, missing_count, is_missing, IsTolerated}
use Rattle.reshape_window_rows.specs.stripe_list_the_Unavailable.{Unavailable}
use Rattle.reshape_window_rows.specs.stripe_list_the_Unavailable_TheVariants.{TooManyMissing, NotResynced}
use Rattle.reshape_window_rows.specs.crash_views_Views.{Disk, Ledger}
use Rattle.reshape_window_rows.specs.crash_views_Windows.{HasNoSection, ListStands}
use Rattle.reshape_window_rows.specs.crash_safety_laws_Steady.{AreWritesAllowed}
use Rattle.reshape_window_rows.specs.Copies.{AreLackingGood}
use Rattle.reshape_window_steps.specs.declared.entering.NotEntered.{NotEntered}
use Rattle.reshape_window_steps.specs.declared.entering.NotEntered.TheVariants.{Unread, Unsaved}

-- ---- answers

-- The call answers why the read wasn't done, where it wasn't; and else how the section was stored.
abbrev pub IsPassedOn : {T U : Type 0} → Result T Unavailable → Result U NotEntered → Type 0
IsPassedOn (Ok done) (Ok entered) = ⊤
IsPassedOn (Ok done) (Err (Unsaved fault)) = ⊤
IsPassedOn (Ok done) (Err (Unread why)) = ⊥
IsPassedOn (Err why) answer = answer ≡ Err (Unread why)

-- the window's sectors were read, whether or not its section was stored
abbrev pub IsRead : {T : Type 0} → Result T NotEntered → Type 0
IsRead (Ok entered) = ⊤
IsRead (Err (Unsaved fault)) = ⊤
IsRead (Err (Unread why)) = ⊥

-- What the call answers, by the roles that are missing in the end: too many of them, or, in an array that isn't synced, one that was asked for; else none that matters.
abbrev pub IsEntered : {T : Type 0} → Shape → Bool → Reading → (ℕ → Type 0) → Result T NotEntered → Type 0
IsEntered shape synced r asked (Ok entered) = IsTolerated r shape
IsEntered shape synced r asked (Err (Unsaved fault)) = IsTolerated r shape
IsEntered shape synced r asked (Err (Unread TooManyMissing)) = tolerance shape < missing_count r shape
IsEntered shape synced r asked (Err (Unread (NotResynced role))) = IsTolerated r shape × (synced ≡ false) × (is_missing r role ≡ true) × asked role

-- ---- the backup

-- The slot is the array's backup, one of those that were given, with room for the span.
pub record IsBackupFor (scope : Scope) (slot : ℕ) (uuid : List ℕ) (span : Span) : Type 0 where
  pub backup : scope.backup ≡ Some slot
  pub there : has_slot scope.given slot ≡ true
  pub array : scope.uuid ≡ uuid
  pub room : 8 + (span.hi - span.lo) ≤ scope.sizes.sectors slot

-- ---- what it takes to enter a window safely

-- The slot is the backup, where a section is to be stored, and none is active; and the list stands on the members, of allowed values.
pub record IsEnterable (scope : Scope) (told : Ledger) (old new : Members) (slot : ℕ) (uuid : List ℕ) (span : Span) (synced sectioned : Bool) (list : ℕ → Sector) (c : Contents) (d : Disk) : Type 0 where
  pub backup : sectioned ≡ true → IsBackupFor scope slot uuid span × HasNoSection scope old d
  pub stands : ListStands None old c list
  pub good : synced ≡ true → AreLackingGood (reading_of old) (reading_of new) c (shape_of old.newest) span list
  pub allowed : AreWritesAllowed old told.values list
