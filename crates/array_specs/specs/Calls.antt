-- What the calls of an array in a reshape tell of it, and what none of them changes.
use Rattle.std.specs.Prelude.{◌≡◌, ℕ, ◌<◌, ◌≤◌, Bool, List, length, Option, Some, None, Result, Ok, Err, ◌⊎◌, true, IfSome}
use Rattle.array_reshaping_state.specs.raid_types_the_Fault.{Fault}
use Rattle.array_call_laws.specs.raid_types_the_Fault_TheVariants.{Refused as IsRefusedWith, NoMemory}
use Rattle.history_invariant_laws.specs.raid_types_the_Refusal.{Refusal}
use Rattle.history_invariant_laws.specs.raid_types_the_Refusal_TheVariants.{BackupFault}
use Rattle.history_invariant_laws.specs.raid_types_the_Who.{Who}
use Rattle.array_reshaping_state.specs.raid_types_the_Span.{Span}
use Rattle.array_reshaping_state.specs.raid_types_the_Status.{Status}
use Rattle.array_reshaping_state.specs.reshape_geometry_Geometry.{stripes, zeroed_stripes, is_critical}
use Rattle.array_reshaping_state.specs.bank_Given.{Given, IsFaulted, NeverFalls}
use Rattle.array_reshaping_state.specs.bank_the_Operation.{Operation}
use Rattle.array_reshaping_state.specs.sb_specs_the_Members.{Members}
use Rattle.array_reshaping_state.specs.sb_specs_Reading.{is_backward, is_clean, shape_of, final_shape, list_length, next_window}
use Rattle.array_reshaping_state.specs.history_the_Entry.{Entry}
use Rattle.array_reshaping_state.specs.history_the_Epoch.{Epoch}
use Rattle.array_reshaping_state.specs.history_the_Event_TheVariants.{Step, Refused}
use Rattle.array_reshaping_state.specs.history_the_StepKind.{StepKind}
use Rattle.array_reshaping_state.specs.history_CrashSafe.{IsCrashSafe}
use Rattle.array_reshaping_state.specs.history_Epochs.{world_of}
use Rattle.array_reshaping_state.specs.history_Legal.{IsLegal}
use Rattle.array_reshaping_state.specs.history_Reshaped.{IsReshaped}
use Rattle.array_reshaping_state.specs.history_Sound.{OpensFit, StaysSound}
use Rattle.array_reshaping_state.specs.history_World.{World}
use Rattle.array_reshaping_state.specs.array_members_Placed.{AreStillHeld}
use Rattle.array_reshaping_state.specs.array_members_Lacking.{AreTooMany}
use Rattle.array_reshaping_state.specs.array_members_Moving.{Grows}
use Rattle.array_reshaping_state.specs.array_call_specs_Calls.{world_for, IsBehind, AreSparesFewer, AreLossesOf, IsEndOf, IsSameArray}
use Rattle.array_reshaping_state.specs.reshape_progress_Laws.{entered, closed, unsure}
use Rattle.array_specs.specs.Parts.{RunningParts, visible_in, left_in}
use Rattle.array_reshaping_state.specs.reshape_progress_the_Course.{Course}

-- this status tells the array as it is
pub record IsStatusFor {B : Type 0} (array : RunningParts B) (status : Status) : Type 0 where
  pub shape : status.shape ≡ shape_of array.parts.members.newest
  pub target : status.target ≡ Some (final_shape array.parts.members.newest)
  pub position : status.position ≡ array.parts.members.newest.reshape_position
  pub size : status.size ≡ array.parts.members.newest.size
  pub length : status.length ≡ list_length array.parts.members.newest
  pub visible : status.visible ≡ visible_in array
  pub clean : status.clean ≡ is_clean array.parts.members.newest
  pub events : status.events ≡ array.parts.members.newest.events
  pub left : status.left ≡ left_in array.parts.work array.parts.members array.course array.ahead
  pub roles : status.roles ≡ array.parts.members.roles
  pub spares : status.spares ≡ array.parts.members.spares

-- its world over its bank
abbrev pub moving_world : {B : Type 0} → Given → List Operation → RunningParts B → World
moving_world given tape array = world_for given tape array.parts

-- It is the same array in the same reshape, the same phases are ahead of it, and it has the same limit.
pub record IsSameReshape {B : Type 0} (tells : Type 0) (old new : RunningParts B) (before after : World) : Type 0 where
  pub array : IsSameArray tells old.parts new.parts before after
  pub final : final_shape new.parts.members.newest ≡ final_shape old.parts.members.newest
  pub backward : is_backward new.parts.members.newest ≡ is_backward old.parts.members.newest
  pub ahead : new.ahead ≡ old.ahead
  pub limit : new.limit ≡ old.limit

-- What each call leaves that is done or refused: more was done on the bank, and the entries end with that; each role and each spare has the slot that it had, or none;
-- each loss has its cause; and it is the same array, in the same reshape.
pub record IsCalled {B : Type 0} (tells : Type 0) (given : Given) (tape tape' : List Operation) (before after : ℕ → ℕ) (old new : RunningParts B) : Type 0 where
  pub grows : Grows tells tape tape'
  pub ended : IsEndOf tells new.parts.first new.parts.entries tape'
  pub held : AreStillHeld old.parts.members new.parts.members
  pub spares : AreSparesFewer old.parts.members new.parts.members
  pub losses : AreLossesOf old.parts.members before after old.parts.entries new.parts.entries
  pub never_falls : NeverFalls before after
  pub work : new.parts.work ≡ old.parts.work
  pub same : IsSameReshape tells old new (moving_world given tape old) (moving_world given tape' new)

-- The epoch that is handed out lies within the tape, is legal, safe at each of its marks, stays sound, and where it opened sound its reshapes end right.
pub record IsEpochKept (given : Given) (tape : List Operation) (backup : Option ℕ) (epoch : Epoch) : Type 0 where
  pub begins : epoch.first ≤ epoch.last
  pub ends : epoch.last ≤ length tape
  pub legal : IsLegal (world_of given tape backup epoch) epoch.entries.items
  pub safe : IsCrashSafe (world_of given tape backup epoch) epoch.last epoch.entries.items
  pub sound : StaysSound (world_of given tape backup epoch) epoch.last epoch.entries.items
  pub reshaped : OpensFit (world_of given tape backup epoch) → IsReshaped (world_of given tape backup epoch) epoch.entries.items

-- ---- steps

-- a step entered what it lost, and behind it that it was done, or why it wasn't; it takes no memory
abbrev pub IsStepTaken : {T : Type 0} → Who → List Entry → List Entry → StepKind → ℕ → Result T Fault → Type 0
IsStepTaken who old new kind left (Ok x) = IsBehind who old new (Step kind left)
IsStepTaken who old new kind left (Err (IsRefusedWith refusal)) = IsBehind who old new (Refused refusal)
IsStepTaken who old new kind left (Err NoMemory) = ⊥

-- no window is open, but one may be unsure, and the next one is to be entered
pub record IsEnterDue {B : Type 0} (array : RunningParts B) : Type 0 where
  pub span : Span
  pub is : (array.course ≡ closed 0) ⊎ (array.course ≡ unsure span)
  pub next : next_window array.parts.members.newest ≡ Some span

-- the window that was the next is entered, with nothing copied, and its section is stored exactly where it is critical
abbrev pub IsNextOpen : Members → Course → Type 0
IsNextOpen members course = (span : Span) → next_window members.newest ≡ Some span
    → course ≡ entered span 0 (is_critical (shape_of members.newest) (final_shape members.newest) members.newest.size (is_backward members.newest) span)

-- it is critical, and a stop may leave its section stored or not
abbrev pub IsNextUnsure : Members → Course → Type 0
IsNextUnsure members course = (span : Span) × (next_window members.newest ≡ Some span)
    × (is_critical (shape_of members.newest) (final_shape members.newest) members.newest.size (is_backward members.newest) span ≡ true) × (course ≡ unsure span)

-- A window is entered only where the array does without what it misses, before and behind it; and it is refused only where more is missing behind it, or the backup failed.
abbrev pub IsEnterCaused : {T : Type 0} → Option ℕ → Members → Members → (ℕ → ℕ) → (ℕ → ℕ) → Result T Fault → Type 0
IsEnterCaused backup old new before after (Ok x) = ((refusal : Refusal) → AreTooMany old refusal → ⊥) × ((refusal : Refusal) → AreTooMany new refusal → ⊥)
IsEnterCaused backup old new before after (Err (IsRefusedWith refusal)) = AreTooMany new refusal ⊎ ((refusal ≡ BackupFault) × IfSome backup (λ slot. IsFaulted slot before after))
IsEnterCaused backup old new before after (Err NoMemory) = ⊥

-- a stripe of the open window is to be copied next
pub record IsCopyDue {B : Type 0} (array : RunningParts B) : Type 0 where
  pub span : Span
  pub copied : ℕ
  pub sectioned : Bool
  pub is : array.course ≡ entered span copied sectioned
  pub more : copied < stripes (final_shape array.parts.members.newest) span.lo span.hi

-- all of them are copied, and the window is to be recorded
pub record IsRecordDue {B : Type 0} (array : RunningParts B) : Type 0 where
  pub span : Span
  pub sectioned : Bool
  pub is : array.course ≡ entered span (stripes (final_shape array.parts.members.newest) span.lo span.hi) sectioned

-- the reshape has gone through the list, and a stripe behind it is to be zeroed
pub record IsZeroDue {B : Type 0} (array : RunningParts B) : Type 0 where
  pub zeroed : ℕ
  pub is : array.course ≡ closed zeroed
  pub through : next_window array.parts.members.newest ≡ None
  pub more : zeroed < zeroed_stripes (shape_of array.parts.members.newest) (final_shape array.parts.members.newest) array.parts.members.newest.size (is_backward array.parts.members.newest)
