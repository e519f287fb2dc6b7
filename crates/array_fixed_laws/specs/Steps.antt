-- What the steps of an array without an active reshape leave, besides their answers.
use Rattle.std.specs.Prelude.{◌≡◌, ◌≢◌, ◌⊎◌, ℕ, List, [], None, MatchOption, ⊤}
use Rattle.array_specs.specs.raid_types_the_Refusal.{Refusal}
use Rattle.array_specs.specs.raid_types_the_Refusal_TheVariants.{Degraded, NeedSpares, BackupFault, Nothing}
use Rattle.array_fixed_invariant.specs.raid_types_the_Who.{Who}
use Rattle.array_fixed_invariant.specs.bank_Given.{Given, NeverFalls}
use Rattle.array_fixed_invariant.specs.bank_the_Operation.{Operation}
use Rattle.array_fixed_invariant.specs.sb_specs_the_Members.{Members}
use Rattle.array_fixed_invariant.specs.history_the_Entry.{Entry}
use Rattle.array_fixed_invariant.specs.history_the_Event.{Event}
use Rattle.array_fixed_invariant.specs.history_the_Event_TheVariants.{Refused, Stepped}
use Rattle.array_fixed_invariant.specs.history_Reshaped.{open_plans}
use Rattle.array_fixed_invariant.specs.history_World.{World}
use Rattle.array_fixed_invariant.specs.array_members_the_Work.{Work}
use Rattle.array_fixed_invariant.specs.array_members_Lacking.{AreTooMany, HaveRolesFailed}
use Rattle.array_fixed_invariant.specs.array_members_Moving.{Grows}
use Rattle.array_fixed_invariant.specs.reshape_request_the_PhasesLeft.{PhasesLeft}
use Rattle.array_fixed_invariant.specs.reshape_request_Left.{phases_of}
use Rattle.array_fixed_invariant.specs.array_call_specs_Calls.{AreLossesBy, WasSpare, IsEndOf, IsUnmendable}
use Rattle.array_fixed_invariant.specs.history_invariant_Recorded.{IsCallGoing, IsOpenBehind}
use Rattle.array_fixed_invariant.specs.history_invariant_laws_Reliable.{IsReliable}
use Rattle.array_fixed_invariant.specs.Still.{IsNamedOrClean}
use Rattle.array_specs.specs.Parts.{RunningParts, still_left}
use Rattle.array_specs.specs.Calls.{moving_world, IsSameReshape}

-- What a step leaves that is done or refused, by the slots that may have had the roles that it lost: more was done on the bank, and the entries end with that; each
-- role has the slot that held it, or that slot has failed since; each loss has its cause, and only spares are told lost as such; and it is the same array.
pub record IsStepped {B : Type 0} (tells : Type 0) (given : Given) (tape tape' : List Operation) (Had : ℕ → ℕ → Type 0) (before after : ℕ → ℕ) (old new : RunningParts B) : Type 0 where
  pub grows : Grows tells tape tape'
  pub ended : IsEndOf tells new.parts.first new.parts.entries tape'
  pub failed : HaveRolesFailed old.parts.members new.parts.members before after
  pub losses : AreLossesBy Had (WasSpare old.parts.members) before after old.parts.entries new.parts.entries
  pub never_falls : NeverFalls before after
  pub same : IsSameReshape tells old new (moving_world given tape old) (moving_world given tape' new)

-- Where no step is left, the reply that tells so may close the plans that are open: there is none, or what is missing can be told from the superblocks.
abbrev pub IsClosable : {B : Type 0} → RunningParts B → Type 0
IsClosable array = still_left array.parts.work array.parts.members array.ahead ≡ 0 → (open_plans array.parts.entries ≡ []) ⊎ IsNamedOrClean array.parts.members

-- so it is asked of a reply that tells no refusal
abbrev pub MayAnswer : List Entry → Work → Members → PhasesLeft → Event → Type 0
MayAnswer entries work members ahead (Stepped done left None) = still_left work members ahead ≡ 0 → (open_plans entries ≡ []) ⊎ IsNamedOrClean members
MayAnswer entries work members ahead event = ⊤

-- a step that ended the request with this refusal was refused rightly, by the members that are left
abbrev pub IsEndedRight : Work → Members → Refusal → Type 0
IsEndedRight work members refusal = IsUnmendable members refusal × (work.resync ≡ None → AreTooMany members refusal)

-- a reshape isn't begun for a role that is missing, for want of spares, or for its backup
abbrev pub RefusesBegin : Refusal → Type 0
RefusesBegin (Degraded role) = ⊤
RefusesBegin (NeedSpares have want) = ⊤
RefusesBegin BackupFault = ⊤
RefusesBegin refusal = ⊥

-- the refusal of a step that ended a request: it was right so, or it is that of the begin of what is ahead
abbrev pub MayEndNow : Work → Members → PhasesLeft → Refusal → Type 0
MayEndNow work members ahead refusal = IsEndedRight work members refusal ⊎ (RefusesBegin refusal × (phases_of ahead ≢ []))

-- a reply to a request for steps: nothing was left to do; or so many steps are left, and a step was refused rightly that ended it
abbrev pub IsStepsReplyNow : Work → Members → PhasesLeft → Event → Type 0
IsStepsReplyNow work members ahead (Refused Nothing) = still_left work members ahead ≡ 0
IsStepsReplyNow work members ahead (Stepped done left ended) = (left ≡ still_left work members ahead) × MatchOption ended ⊤ (MayEndNow work members ahead)
IsStepsReplyNow work members ahead event = ⊥

-- The call goes on, and nothing was left open by what it entered: each length was kept by some slot, and steps are left.
pub record IsCallUnbroken (tells : Type 0) (world : World) (entries : List Entry) (who : Who) : Type 0 where
  pub goes : IsCallGoing entries who
  pub kept : tells → IsReliable world entries → IsOpenBehind world goes.call
