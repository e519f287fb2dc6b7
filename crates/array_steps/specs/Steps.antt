-- The background steps of an array that may be in a reshape: one of them, and as many as a caller asks for.
use Rattle.std.specs.Prelude.{◌≡◌, ◌⊎◌, ℕ, ◌+◌, ◌<◌, ◌≤◌, ◌++◌, Bool, true, false, List, length, drop, count_by, Option, Some, None, MatchBool, Result, Ok, Err, ⊤}
use Rattle.std.specs.List.{list_any, All}
use Rattle.array.specs.raid_types_the_Fault.{Fault}
use Rattle.array.specs.raid_types_the_Fault_TheVariants.{Refused as IsRefusedWith, NoMemory}
use Rattle.array.specs.raid_types_the_Refusal.{Refusal}
use Rattle.array.specs.raid_types_the_Refusal_TheVariants.{Nothing}
use Rattle.array.specs.raid_types_the_Who.{Who}
use Rattle.array.specs.bank_the_Operation.{Operation}
use Rattle.array.specs.bank_Given.{Given, IsFaulted}
use Rattle.array.specs.sb_specs_the_Members.{Members}
use Rattle.array.specs.sb_specs_Reading.{is_reshaping, shape_of, final_shape}
use Rattle.array.specs.history_the_Entry.{Entry}
use Rattle.array.specs.history_the_Event.{Event}
use Rattle.array.specs.history_the_Event_TheVariants.{Lost, Step, Stepped, Refused}
use Rattle.array.specs.history_the_LostCause_TheVariants.{Fault as ByFault}
use Rattle.array.specs.history_the_StepKind_TheVariants.{Begun, Finished, TakenOver}
use Rattle.array.specs.history_Fits.{is_step_event, is_lost_event}
use Rattle.array.specs.history_OneShape.{IsOfCall}
use Rattle.array.specs.array_members_Lacking.{HaveRolesFailed}
use Rattle.array.specs.array_members_Placed.{AreStillHeld}
use Rattle.array.specs.array_members_Rebuilding.{Held}
use Rattle.array.specs.array_call_specs_Calls.{IsBehind, IsEndOf, AreStepsFewer, TellNoLoss, AreSparesFewer, AreLossesOf}
use Rattle.array.specs.history_invariant_Recorded.{MayGoOn, IsCallGoing}
use Rattle.array.specs.array_specs_Parts.{RunningParts}
use Rattle.array.specs.array_specs_Plans.{aim_of}
use Rattle.array.specs.array_reply_specs_Replies.{EndsRunningSteps, IsRefusalBy}
use Rattle.array.specs.array_reply_specs_Going.{is_finish, HasRunOn}
use Rattle.array.specs.array_fixed_laws_Steps.{IsClosable}
use Rattle.array.specs.array_transition_Begun.{HasKeptLength}
use Rattle.array.specs.Calls.{running_left, MayEndSteps}

-- ---- what is asked

-- The call goes on; and where no reshape is active, it has changed no length so far and told of steps that are left wherever it told of steps, so that a reshape may begin in it.
abbrev pub IsOpenFor : {B : Type 0} → RunningParts B → Who → Type 0
IsOpenFor array who = MatchBool (is_reshaping array.parts.members.newest) (IsCallGoing array.parts.entries who) (HasKeptLength array.parts.entries who)

-- ---- what steps keep

-- the event tells that a reshape began or ended, or that the level was taken over
abbrev pub is_turn : Event → Bool
is_turn (Step Begun left) = true
is_turn (Step Finished left) = true
is_turn (Step TakenOver left) = true
is_turn event = false

-- one of the entries behind the old ones tells so
abbrev pub has_turned : List Entry → List Entry → Bool
has_turned old new = list_any (λ e. is_turn e.event) (drop (length old) new)

-- the same shapes are in force, and the same phases are ahead
pub record IsUnturned {B : Type 0} (old new : RunningParts B) : Type 0 where
  pub active : is_reshaping new.parts.members.newest ≡ is_reshaping old.parts.members.newest
  pub shape : shape_of new.parts.members.newest ≡ shape_of old.parts.members.newest
  pub final : final_shape new.parts.members.newest ≡ final_shape old.parts.members.newest
  pub ahead : new.ahead ≡ old.ahead

-- each slot that held a role that is told lost by a fault has failed since
abbrev pub IsHolderFailed : Members → (ℕ → ℕ) → (ℕ → ℕ) → Event → Type 0
IsHolderFailed members before now (Lost role ByFault) = (slot : ℕ) → Held members role slot → IsFaulted slot before now
IsHolderFailed members before now event = ⊤

-- roles and spares were only lost, and each loss that is told has its cause in the slot that had it
pub record AreOnlyLost {B : Type 0} (before now : ℕ → ℕ) (old new : RunningParts B) : Type 0 where
  pub held : AreStillHeld old.parts.members new.parts.members
  pub spares : AreSparesFewer old.parts.members new.parts.members
  pub losses : AreLossesOf old.parts.members before now old.parts.entries new.parts.entries

-- Steps leave an array on its way: it goes to the same shape, and has its size and its limit. As long as they tell no begin, no end of a reshape and no takeover, the same shapes are in force and the same phases ahead; in a reshape
-- roles and spares are then only lost; and of an array without one each role has the slot that held it, or that slot has failed since, as it has where the role is told lost by a fault.
pub record KeepsItsWay {B : Type 0} (before now : ℕ → ℕ) (old new : RunningParts B) : Type 0 where
  pub aim : aim_of new ≡ aim_of old
  pub size : new.parts.members.newest.size ≡ old.parts.members.newest.size
  pub limit : new.limit ≡ old.limit
  pub unturned : has_turned old.parts.entries new.parts.entries ≡ false → IsUnturned old new
  pub roles : is_reshaping old.parts.members.newest ≡ false → has_turned old.parts.entries new.parts.entries ≡ false → HaveRolesFailed old.parts.members new.parts.members before now
  pub failed : is_reshaping old.parts.members.newest ≡ false → has_turned old.parts.entries new.parts.entries ≡ false
      → All (λ e. IsHolderFailed old.parts.members before now e.event) (drop (length old.parts.entries) new.parts.entries)
  pub lost : is_reshaping old.parts.members.newest ≡ true → has_turned old.parts.entries new.parts.entries ≡ false → AreOnlyLost before now old new

-- ---- one step

-- a step tells that so many are left
abbrev pub TellsLeft : ℕ → Event → Type 0
TellsLeft left (Step kind told) = told ≡ left
TellsLeft left event = ⊤

-- one entry tells a step; or none does, and the loss of a role is told
abbrev pub TellOneStep : List Entry → Type 0
TellOneStep entries = (count_by (λ e. is_step_event e.event) entries ≡ 1)
    ⊎ ((count_by (λ e. is_step_event e.event) entries ≡ 0) × (1 ≤ count_by (λ e. is_lost_event e.event) entries))

-- What a step leaves that is done, whether a reshape ended by it (`over`) or not: what it entered, with the steps that are left, which are one fewer, that the call goes on, that a reply may close its plans, and what it keeps.
pub record IsStepDone {B : Type 0} (tells : Type 0) (given : B → Given) (tape : B → List Operation) (faults : B → ℕ → ℕ) (who : Who) (old new : RunningParts B) (over : Bool) : Type 0 where
  pub inner : List Entry
  pub is : new.parts.entries ≡ old.parts.entries ++ inner
  pub own : All (λ e. IsOfCall who e × MayGoOn e.event) inner
  pub told : All (λ e. TellsLeft (running_left new) e.event) inner
  pub one : TellOneStep inner
  pub over_told : over ≡ list_any (λ e. is_finish e.event) inner
  pub left : over ≡ false → AreStepsFewer old.parts.entries new.parts.entries (running_left old) (running_left new)
  pub next_open : over ≡ false → 0 < running_left new → IsOpenFor old who → IsOpenFor new who
  pub going : IsCallGoing new.parts.entries who
  pub closable : is_reshaping new.parts.members.newest ≡ false → IsClosable new
  pub went : HasRunOn tells given tape faults old new
  pub kept : KeepsItsWay (faults old.parts.bank) (faults new.parts.bank) old new
  pub ended : IsEndOf tells new.parts.first new.parts.entries (tape new.parts.bank)

-- What a step leaves that is refused: the refusal is its last entry, for a slot or the backup only where that failed.
pub record IsStepRefused {B : Type 0} (tells : Type 0) (given : B → Given) (tape : B → List Operation) (faults : B → ℕ → ℕ) (who : Who) (old new : RunningParts B) (refusal : Refusal) : Type 0 where
  pub behind : IsBehind who old.parts.entries new.parts.entries (Refused refusal)
  pub why : EndsRunningSteps refusal
  pub cause : IsRefusalBy old.parts.backup (faults old.parts.bank) (faults new.parts.bank) refusal
  pub right : MayEndSteps new refusal
  pub going : IsCallGoing new.parts.entries who
  pub went : HasRunOn tells given tape faults old new
  pub kept : KeepsItsWay (faults old.parts.bank) (faults new.parts.bank) old new
  pub ended : IsEndOf tells new.parts.first new.parts.entries (tape new.parts.bank)

-- what a step leaves
abbrev pub IsStepTaken : {B : Type 0} → Type 0 → (B → Given) → (B → List Operation) → (B → ℕ → ℕ) → Who → RunningParts B → RunningParts B → Result Bool Refusal → Type 0
IsStepTaken tells given tape faults who old new (Ok over) = IsStepDone tells given tape faults who old new over
IsStepTaken tells given tape faults who old new (Err refusal) = IsStepRefused tells given tape faults who old new refusal

-- the same of the next step, which may also be refused because none is left; want of memory has done nothing
abbrev pub IsStepAnswered : {B T : Type 0} → Type 0 → (B → Given) → (B → List Operation) → (B → ℕ → ℕ) → Who → RunningParts B → RunningParts B → Result T Fault → Type 0
IsStepAnswered tells given tape faults who old new (Ok x) = (over : Bool) × IsStepDone tells given tape faults who old new over
IsStepAnswered tells given tape faults who old new (Err (IsRefusedWith Nothing)) = IsBehind who old.parts.entries new.parts.entries (Refused Nothing)
IsStepAnswered tells given tape faults who old new (Err (IsRefusedWith refusal)) = IsStepRefused tells given tape faults who old new refusal
IsStepAnswered tells given tape faults who old new (Err NoMemory) = new ≡ old

-- a step is refused with Nothing exactly where none is left
abbrev pub IsNothingRight : {T : Type 0} → ℕ → Result T Fault → Type 0
IsNothingRight left (Ok x) = 0 < left
IsNothingRight left (Err (IsRefusedWith Nothing)) = left ≡ 0
IsNothingRight left (Err (IsRefusedWith refusal)) = 0 < left
IsNothingRight left (Err NoMemory) = ⊤

-- ---- some steps

-- one of the entries behind the old ones tells that a reshape ended
abbrev pub has_finished : List Entry → List Entry → Bool
has_finished old new = list_any (λ e. is_finish e.event) (drop (length old) new)

-- So many steps of a call were done, each of which it entered, but for one for each role that it lost, at most.
pub record AreStepsOf (who : Who) (old new : List Entry) (done : ℕ) : Type 0 where
  pub inner : List Entry
  pub is : new ≡ old ++ inner
  pub own : All (λ e. IsOfCall who e × MayGoOn e.event) inner
  pub counted : count_by (λ e. is_step_event e.event) inner ≤ done
  pub not_more : done ≤ count_by (λ e. is_step_event e.event) inner + count_by (λ e. is_lost_event e.event) inner

-- to so many steps one more was added, which was done, or refused
abbrev pub IsCountedBehind : ℕ → Result Bool Refusal → ℕ → Option Refusal → Type 0
IsCountedBehind before (Ok over) done ended = (done ≡ before + 1) × (ended ≡ None)
IsCountedBehind before (Err refusal) done ended = (done ≡ before) × (ended ≡ Some refusal)

-- Behind the end of a reshape, after so many steps of a call: no more was done, or one step more, or that was refused.
abbrev pub IsGoneOn : {B : Type 0} → Type 0 → (B → Given) → (B → List Operation) → (B → ℕ → ℕ) → Who → RunningParts B → RunningParts B → ℕ → ℕ → Option Refusal → Type 0
IsGoneOn tells given tape faults who old new before done None = ((done ≡ before) × (new ≡ old)) ⊎ ((done ≡ before + 1) × IsStepDone tells given tape faults who old new false)
IsGoneOn tells given tape faults who old new before done (Some refusal) = (done ≡ before) × IsStepRefused tells given tape faults who old new refusal

-- The answer tells how many steps were done, and how many are left after; as many as were left before, where no loss was told, no reshape ended and none was refused. It is Nothing exactly
-- where none was left.
abbrev pub IsStepCount : List Entry → List Entry → ℕ → ℕ → Event → Type 0
IsStepCount old new before after (Stepped done left ended) = (left ≡ after) × (TellNoLoss old new → has_finished old new ≡ false → ended ≡ None → after + done ≡ before) × (0 < before)
IsStepCount old new before after (Refused Nothing) = (before ≡ 0) × (after ≡ 0)
IsStepCount old new before after event = ⊥
