-- The updates that begin and end a reshape.
use Rattle.std.specs.Prelude.{◌≡◌, ◌⊎◌, ℕ, ◌≤◌, true, false, List, Option, ⊤}
use Rattle.crash_safety_laws.specs.bank_the_Operation.{Operation}
use Rattle.crash_safety_laws.specs.bank_Given.{Given}
use Rattle.crash_safety_laws.specs.raid_types_Sectors.{Sector}
use Rattle.crash_safety_laws.specs.bank_Tape.{Contents, disk}
use Rattle.crash_safety_laws.specs.sb_specs_the_Give_TheVariants as give
use Rattle.crash_safety_laws.specs.sb_specs_the_Change.{Change}
use Rattle.crash_safety_laws.specs.sb_specs_the_Members.{Members}
use Rattle.crash_safety_laws.specs.sb_specs_Reading.{Scope, is_reshaping, shape_of}
use Rattle.crash_safety_laws.specs.sb_specs_Update.{give_of}
use Rattle.crash_safety_laws.specs.crash_views_Regions.{ArePlaced}
use Rattle.crash_safety_laws.specs.crash_views_Views.{Ledger}
use Rattle.crash_safety_laws.specs.crash_views_Windows.{IsFlushedRight}
use Rattle.crash_safety_laws.specs.Safety.{HasRoomLeft}
use Rattle.crash_safety_laws.specs.Steady.{IsSteady, IsSafeNow, AreGoneTold}
use Rattle.crash_safety_laws.specs.Updates.{planned_view, IsAtStart}
use Rattle.crash_safety_laws.specs.Changing.{IsChanged, IsSafeChange}
use Rattle.crash_safety_laws.specs.Kinds.{IsTaking, IsDropping}
use Rattle.crash_safety_laws.specs.Giving.{IsToldOf}
use Rattle.crash_reshape_laws.specs.Ends.{IsCleared}

-- A reshape begins at its first position, with the same old shape and clean mark, and gives roles alone that are new.
pub record IsBeginning (old : Members) (change : Change) : Type 0 where
  pub taking : IsTaking old change
  pub still : is_reshaping old.newest ≡ false
  pub active : is_reshaping change.shared ≡ true
  pub start : IsAtStart change.shared
  pub shape : shape_of change.shared ≡ shape_of old.newest
  pub clean : change.shared.resync_offset ≡ old.newest.resync_offset
  pub fresh : (s role : ℕ) (recovery : Option ℕ) → give_of change.gives s ≡ give.Role role recovery → (shape_of old.newest).disks ≤ role

-- It keeps the array safe, by the ledger before it or by the one with it, which may be of a shorter list: where the header was cleared, the planned members are
-- placed, and the other ledger tells what the first does.
abbrev pub BeginStaysSafe : (sound : Type 0) → Type 0
BeginStaysSafe sound = (scope : Scope) (given : Given) (told more : Ledger) (change : Change) (old new : Members) (before after : List Operation)
    → IsChanged ⊤ given change old new before after → IsBeginning old change → HasRoomLeft old before after
    → ArePlaced scope given (planned_view old change old.lost) → IsCleared scope (disk given.start before)
    → IsToldOf scope (planned_view old change old.lost) (disk given.start before) told more → AreGoneTold told old → AreGoneTold more new
    → ((slot number : ℕ) → told.carried slot number ≡ true → more.carried slot number ≡ true)
    → IsSafeNow sound scope given told old (disk given.start before) → IsSafeChange sound scope given told more new before after

-- ---- an update behind a flush

-- Where the holders of the planned members are flushed, and the list stands on them as planned, an update by which spares get roles, or holders become spares,
-- keeps the array safe: the end of a reshape, a takeover, and a recovery offset that moves on.
abbrev pub FlushedChangeStaysSafe : (sound : Type 0) → Type 0
FlushedChangeStaysSafe sound = (scope : Scope) (given : Given) (told more : Ledger) (change : Change) (old new : Members) (before after : List Operation) (c : Contents) (list : ℕ → Sector)
    → IsChanged ⊤ given change old new before after → IsTaking old change ⊎ IsDropping old change → HasRoomLeft old before after → AreGoneTold more new
    → ((slot number : ℕ) → told.carried slot number ≡ true → more.carried slot number ≡ true)
    → (IsSteady sound scope given told old (disk given.start before) → IsFlushedRight sound scope given more (planned_view old change old.lost) c list (disk given.start before))
    → IsSafeNow sound scope given told old (disk given.start before) → IsSafeChange sound scope given told more new before after
