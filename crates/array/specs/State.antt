-- What a running array keeps, by whether a reshape is active in it.
use Rattle.std.specs.Prelude.{◌≡◌, ℕ, ◌+◌, ◌*◌, ◌<◌, ◌≤◌, true, false, List, [], ◌∷◌, length, Option, Some, None, IfSome, ⊤}
use Rattle.array_grow.specs.raid_types_the_Shape.{Shape}
use Rattle.array_grow.specs.raid_types_the_Phase.{Phase}
use Rattle.array_grow.specs.raid_types_the_Phase_TheVariants.{Reshape}
use Rattle.array_grow.specs.bank_Given.{Given}
use Rattle.array_grow.specs.bank_the_Operation.{Operation}
use Rattle.array_takeover.specs.reshape_plan_Plans.{phase_shape, phase_window}
use Rattle.array_takeover.specs.sb_specs_Reading.{is_reshaping, shape_of, list_length}
use Rattle.array_takeover.specs.sb_specs_Reads.{has_spare}
use Rattle.array_takeover.specs.history_Flat.{length_of, limit_of}
use Rattle.array_takeover.specs.history_Growing.{EndBy}
use Rattle.array_takeover.specs.history_Legal.{told_left}
use Rattle.array_takeover.specs.history_Reshaped.{open_plans}
use Rattle.array_grow.specs.array_members_Placed.{AreWhole}
use Rattle.array_grow.specs.array_members_Rebuilding.{Held}
use Rattle.array_takeover.specs.reshape_request_Left.{phases_of}
use Rattle.array_grow.specs.reshape_progress_Laws.{closed}
use Rattle.array_grow.specs.array_specs_Parts.{RunningParts}
use Rattle.array_grow.specs.Stored.{IsStoredBy}
use Rattle.array_grow.specs.array_specs_Calls.{moving_world}
use Rattle.array_grow.specs.array_specs_Plans.{ArePlansKept, KeepsShape}
use Rattle.array_grow.specs.array_type_One.{KeepsBy, running_left}

-- its superblocks tell no reshape, and there is no course of one
pub record IsStillNow {B : Type 0} (array : RunningParts B) : Type 0 where
  pub still : is_reshaping array.parts.members.newest ≡ false
  pub course : array.course ≡ closed 0

-- ---- the phases ahead

-- none of these phases is a reshape
abbrev pub AreTakeovers : List Phase → Type 0
AreTakeovers [] = ⊤
AreTakeovers (Reshape to ∷ more) = ⊥
AreTakeovers (phase ∷ more) = AreTakeovers more

-- at most one of them is
abbrev pub IsOneReshape : List Phase → Type 0
IsOneReshape [] = ⊤
IsOneReshape (Reshape to ∷ more) = AreTakeovers more
IsOneReshape (phase ∷ more) = IsOneReshape more

-- A reshape from a shape of so many rows to another can begin, as far as its backup and its buffer go: there is a slot with room for its header and each window, and a buffer of so many bytes has room
-- for each window.
pub record CanBeNext (given : Given) (window : ℕ) (backup : Option ℕ) (now : Shape) (size : ℕ) (to : Shape) : Type 0 where
  pub slot : ℕ
  pub is : backup ≡ Some slot
  pub known : slot < given.slots
  pub room : 8 + phase_window now size (Reshape to) ≤ given.sectors slot
  pub wide : 512 * phase_window now size (Reshape to) ≤ window

-- so can each reshape of these phases, from the shape on that the phases before it lead to
abbrev pub AreBacked : Given → ℕ → Option ℕ → Shape → ℕ → List Phase → Type 0
AreBacked given window backup now size [] = ⊤
AreBacked given window backup now size (Reshape to ∷ more) = CanBeNext given window backup now size to × AreBacked given window backup to size more
AreBacked given window backup now size (phase ∷ more) = AreBacked given window backup (phase_shape phase) size more

-- so it is of those that are ahead of an array without a reshape
abbrev pub IsNextBacked : {B : Type 0} → Given → ℕ → RunningParts B → Type 0
IsNextBacked given window array =
    AreBacked given window array.parts.backup (shape_of array.parts.members.newest) array.parts.members.newest.size (phases_of array.ahead)

-- ---- what it keeps

-- its epoch began within the tape, where its entries end too; they tell how long its list is, and its limit; the steps that they tell are left are left; and the stored superblocks say what its members do
pub record IsWithin {B : Type 0} (tells : Type 0) (given : Given) (tape : List Operation) (array : RunningParts B) : Type 0 where
  pub begun : tells → array.parts.first ≤ length tape
  pub ends : tells → EndBy (length tape) array.parts.entries
  pub sized : length_of (list_length array.parts.members.newest) array.parts.entries ≡ list_length array.parts.members.newest
  pub limited : limit_of array.parts.entries ≡ array.limit
  pub told : IfSome (told_left array.parts.entries) (λ n. n ≡ running_left array)
  pub stored : tells → IsStoredBy (moving_world given tape array) array

-- the backup, if there is one, holds no role and is no spare
abbrev pub IsBackupAside : {B : Type 0} → RunningParts B → Type 0
IsBackupAside array = (slot : ℕ) → array.parts.backup ≡ Some slot
    → (has_spare array.parts.members.spares slot ≡ false) × ((role : ℕ) → Held array.parts.members role slot → ⊥)

-- where no resync is pending, no phase is ahead and every role is whole, no plan is open: the step or the reply that left none has closed it
abbrev pub AreClosedIdle : {B : Type 0} → RunningParts B → Type 0
AreClosedIdle array = array.parts.work.resync ≡ None → phases_of array.ahead ≡ [] → AreWhole array.parts.members → open_plans array.parts.entries ≡ []

-- Without a reshape phases may be ahead, one of which may be a reshape, which can be next behind those before it; each plan that is open goes where they lead, and none is where all is done.
pub record IsAtRest {B : Type 0} (tells : Type 0) (given : Given) (tape : List Operation) (window : ℕ) (array : RunningParts B) : Type 0 where
  pub now : IsStillNow array
  pub within : IsWithin tells given tape array
  pub one : IsOneReshape (phases_of array.ahead)
  pub next : IsNextBacked given window array
  pub aside : IsBackupAside array
  pub plans : ArePlansKept tells (moving_world given tape array) array
  pub closed : AreClosedIdle array

-- In a reshape takeovers alone may be ahead; each plan that is open goes where the reshape and they do, and the opening found the reshape, or the history tells it.
pub record IsInReshape {B : Type 0} (tells : Type 0) (given : Given) (tape : List Operation) (array : RunningParts B) : Type 0 where
  pub active : is_reshaping array.parts.members.newest ≡ true
  pub within : IsWithin tells given tape array
  pub last : AreTakeovers (phases_of array.ahead)
  pub turned : tells → KeepsShape (moving_world given tape array) array.parts.entries → ⊥
  pub plans : ArePlansKept tells (moving_world given tape array) array

-- it keeps the one or the other, as its superblocks tell
abbrev pub IsAsTold : {B : Type 0} → Type 0 → (B → Given) → (B → List Operation) → ℕ → RunningParts B → Type 0
IsAsTold tells given tape window array =
    KeepsBy (is_reshaping array.parts.members.newest) (IsInReshape tells (given array.parts.bank) (tape array.parts.bank) array)
    (IsAtRest tells (given array.parts.bank) (tape array.parts.bank) window array)
