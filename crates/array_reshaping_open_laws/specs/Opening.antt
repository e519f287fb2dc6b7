-- What an opening finds of an array in a reshape, and that this is what such an array keeps.
use Rattle.std.specs.Prelude.{◌≡◌, ℕ, Bool, true, List, length, if◌then◌else◌, Option, Some, None}
use Rattle.array_reshaping_invariant.specs.sb_codec_the_Sb.{Sb}
use Rattle.array_reshaping_invariant.specs.bank_the_Operation.{Operation}
use Rattle.array_reshaping_invariant.specs.bank_Given.{Given}
use Rattle.array_reshaping_invariant.specs.bank_Tape.{disk}
use Rattle.array_reshaping_invariant.specs.bank_Whole.{HasWholeSectors}
use Rattle.array_reshaping_invariant.specs.sb_specs_the_Members.{Members}
use Rattle.array_reshaping_invariant.specs.sb_specs_Reading.{Scope, is_reshaping, is_clean, role_count}
use Rattle.array_reshaping_invariant.specs.sb_specs_Update.{own_in}
use Rattle.array_reshaping_invariant.specs.stripe_row_Rows.{reading_of, present, members_without}
use Rattle.array_reshaping_invariant.specs.history_the_Entry.{Entry}
use Rattle.array_reshaping_invariant.specs.history_Plain.{entries_of}
use Rattle.array_reshaping_invariant.specs.history_Stands.{backup_absent}
use Rattle.array_reshaping_invariant.specs.crash_views_Regions.{header_in, open_by}
use Rattle.array_reshaping_invariant.specs.array_call_specs_Kept.{scope_in}
use Rattle.array_reshaping_invariant.specs.array_call_specs_Adopting.{opener, absent_losses}
use Rattle.array_reshaping_invariant.specs.reshape_request_the_Window.{Window}
use Rattle.array_reshaping_invariant.specs.reshape_progress_Course.{IsWindowOf}
use Rattle.array_reshaping_invariant.specs.reshape_progress_the_Course.{Course}
use Rattle.array_reshaping_invariant.specs.Moving.{IsMoving}
use Rattle.array_found_laws.specs.Found.{AreElected, AreStored}
use Rattle.array_open_window.specs.Finding.{IsLookedFor, window_for, bytes_for, IsFoundIn}
use Rattle.array_open_window.specs.Recovering.{AreRecovering}

-- these slots of the bank, looked at for the array that was elected
abbrev pub scope_of : Given → ℕ → ℕ → Members → Scope
scope_of bank given backup members = scope_in bank members.newest.set_uuid given (Some backup)

-- The members are elected, a reshape is active, and the backup that it needs is there and holds no superblock of the array. Over a bank that tells its contents
-- they are read from what the given slots hold, and a stop leaves just that.
pub record AreOpenedMoving (tells : Type 0) (bank : Given) (tape : List Operation) (given backup : ℕ) (members : Members) : Type 0 where
  pub elected : AreElected bank given members
  pub aside : own_in members.own backup ≡ None
  pub active : is_reshaping members.newest ≡ true
  pub backed : backup_absent (scope_of bank given backup members) members.newest ≡ None
  pub stored : tells → AreStored bank (scope_of bank given backup members) members (present bank tape) (disk bank.start tape)

-- So it is, over the whole sectors that every bank has; and the window is the one that the backup's header tells, and these bytes are its section's.
pub record IsOpenedMoving (tells : Type 0) (bank : Given) (tape : List Operation) (given backup : ℕ) (members : Members) (window : Window) (buffer : List ℕ) : Type 0 where
  pub members_are : AreOpenedMoving tells bank tape given backup members
  pub whole : tells → HasWholeSectors bank tape
  pub window_is : IsWindowOf members.newest window
  pub found : tells → window ≡ window_for (open_by (scope_of bank given backup members) members.newest (header_in (scope_of bank given backup members) (present bank tape)))
  pub sectors : tells → IsFoundIn (present bank tape backup) window buffer

-- `find_window` finds it so.
abbrev pub FoundWindowsOpen : (tells : Type 0) → Type 0
FoundWindowsOpen tells = (bank : Given) (tape : List Operation) (given backup : ℕ) (members : Members) (window : Window) (buffer : List ℕ) → AreOpenedMoving tells bank tape given backup members
    → (tells → HasWholeSectors bank tape) → IsWindowOf members.newest window
    → (tells → (scope : Scope) → IsLookedFor bank members.newest backup scope → window ≡ window_for (open_by scope members.newest (header_in scope (present bank tape))))
    → (tells → IsFoundIn (present bank tape backup) window (bytes_for window buffer)) → IsOpenedMoving tells bank tape given backup members window (bytes_for window buffer)

-- the first entries of such an array: a loss for each role of either shape that isn't whole
abbrev pub opening_entries : ℕ → Members → List Entry
opening_entries first members = entries_of opener first (absent_losses (reading_of members) (role_count members.newest))

-- the number of each superblock is one of these of its slot
abbrev pub AreAmong : (ℕ → ℕ → Bool) → Members → Type 0
AreAmong carried members = (slot : ℕ) (sb : Sb) → own_in members.own slot ≡ Some sb → carried slot sb.dev_number ≡ true

-- the window is under way, and nothing behind the list is zeroed
abbrev pub found_course : Window → Course
found_course window = record { window = window; zeroed = 0 }

-- the resync that such an array owes: of one that was found dirty, with nothing mended
abbrev pub found_resync : Members → Option ℕ
found_resync members = if is_clean members.newest then None else Some 0

-- What was opened keeps, without the slots that recover a role, what an array in a reshape keeps, whatever number of steps is left.
abbrev pub OpeningsMove : (tells : Type 0) → Type 0
OpeningsMove tells = (bank : Given) (tape : List Operation) (given backup recovering first left : ℕ) (former : Members) (window : Window) (buffer : List ℕ) (carried : ℕ → ℕ → Bool)
    → IsOpenedMoving tells bank tape given backup former window buffer → AreRecovering former recovering → AreAmong carried former → (tells → first ≡ length tape)
    → IsMoving tells bank tape (scope_of bank given backup former) first (opening_entries first (members_without recovering former)) (members_without recovering former) carried
    (found_resync former) (found_course window) buffer left
