-- What the calls of a running array tell of it, by whether a reshape is active in it.
use Rattle.std.specs.Prelude.{◌≡◌, ◌≢◌, ◌⊎◌, ℕ, ◌+◌, ◌<◌, true, false, List, [], ◌∷◌, MatchBool, MatchOption, Result, Ok, Err, ⊤}
use Rattle.array_grow.specs.raid_types_the_Fault.{Fault}
use Rattle.array_grow.specs.raid_types_the_Fault_TheVariants.{Refused as IsRefusedWith, NoMemory}
use Rattle.array_grow.specs.raid_types_the_Refusal.{Refusal}
use Rattle.array_grow.specs.raid_types_the_Refusal_TheVariants.{Nothing as IsDone, BackupFault}
use Rattle.array_grow.specs.raid_types_the_Phase.{Phase}
use Rattle.array_grow.specs.raid_types_the_Phase_TheVariants.{Reshape, UpTo6, DownTo5}
use Rattle.array_takeover.specs.sb_specs_the_Members.{Members}
use Rattle.array_takeover.specs.sb_specs_Reading.{is_reshaping, shape_of}
use Rattle.array_takeover.specs.history_World.{World}
use Rattle.array_takeover.specs.history_the_Entry.{Entry}
use Rattle.array_takeover.specs.history_the_Event.{Event}
use Rattle.array_takeover.specs.history_the_Event_TheVariants.{Refused, Stepped}
use Rattle.array_grow.specs.array_members_Lacking.{IsUnread, IsUnwritten, are_synced, synced_rows}
use Rattle.array_grow.specs.stripe_region_resync_Resyncs.{relied_sector}
use Rattle.array_grow.specs.array_members_Status.{left_of}
use Rattle.array_grow.specs.array_members_the_Work.{Work}
use Rattle.array_takeover.specs.reshape_request_Left.{phases_of}
use Rattle.array_grow.specs.history_invariant_Safe.{IsFilledRight}
use Rattle.array_grow.specs.history_invariant_laws_Reliable.{IsReliable}
use Rattle.array_grow.specs.array_specs_Parts.{RunningParts}
pub use Rattle.array_grow.specs.array_type_One.{running_left, IsShownAs}
use Rattle.array_grow.specs.reshape_progress_Course.{hidden_in}
use Rattle.array_grow.specs.array_reshaping_state_Due.{due_of}
use Rattle.array_grow.specs.array_reshaping_state_the_Due_TheVariants.{Finish as EndsReshape}
use Rattle.array_grow.specs.array_reshaping_state_First.{IsUnreadAround}
use Rattle.array_grow.specs.array_reshaping_laws_Writing.{IsWriteBarred}
use Rattle.array_grow.specs.array_fixed_laws_Steps.{IsEndedRight}
use Rattle.array_grow.specs.array_reshaping_steps_Replies.{IsEndedInReshape}
use Rattle.array_grow.specs.array_transition_Begun.{IsUnbegun}
use Rattle.array_takeover.specs.TakenOver.{IsTakeoverNext, IsUntaken}
use Rattle.array.specs.declared.state.choosing.Next.{Next}
use Rattle.array.specs.declared.state.choosing.Next.TheVariants.{Nothing, Own, Begin, Take, Move, Finish}

-- What is asked of the history, where a read is to be right by it: in a reshape that it can be relied on behind the read, or else that what was filled in is right.
abbrev pub IsReadRight : {B : Type 0} → RunningParts B → World → World → List Entry → Type 0
IsReadRight array before after entries = MatchBool (is_reshaping array.parts.members.newest) (IsReliable after entries) (IsFilledRight before entries)

-- why a read of so many sectors isn't done: in a reshape by the shapes of the regions that they lie in, beside the window whose sectors are in memory, or else by the one shape
abbrev pub IsReadLacked : {B : Type 0} → RunningParts B → ℕ → ℕ → Members → Refusal → Type 0
IsReadLacked array at count m refusal =
    MatchBool (is_reshaping array.parts.members.newest) (IsUnreadAround (hidden_in array.course.window) (relied_sector array.parts.members.newest array.parts.work.resync) at (at + count) m refusal)
    (IsUnread (shape_of array.parts.members.newest) (synced_rows array.parts.work.resync array.parts.members) at count m refusal)

-- why a write of them isn't done; in a reshape also because the open window can't be finished, or for a window whose entering failed
abbrev pub IsWriteLackedIn : {B : Type 0} → RunningParts B → ℕ → ℕ → Members → Refusal → Type 0
IsWriteLackedIn array at count m refusal =
    MatchBool (is_reshaping array.parts.members.newest) (IsWriteBarred array.course.window (relied_sector array.parts.members.newest array.parts.work.resync) at (at + count) m refusal)
    (IsUnwritten (shape_of array.parts.members.newest)
    (are_synced (shape_of array.parts.members.newest) (synced_rows array.parts.work.resync array.parts.members) (at + count)) m refusal)

-- ---- steps

-- no reshape is active, and nothing is left to do but the phases ahead
abbrev pub IsPhaseDue : {B : Type 0} → RunningParts B → Type 0
IsPhaseDue array = (is_reshaping array.parts.members.newest ≡ false) × (left_of array.parts.work array.parts.members ≡ 0)

-- What is next to do: nothing is left; a step without a reshape, of a resync or a rebuild; the first phase ahead, where none of these is left: a reshape begins, or the level is taken over; a step of
-- the active reshape, or its end.
abbrev pub IsNext : {B : Type 0} → RunningParts B → Next → Type 0
IsNext array Nothing = running_left array ≡ 0
IsNext array Own = (is_reshaping array.parts.members.newest ≡ false) × (0 < left_of array.parts.work array.parts.members)
IsNext array (Begin to) = IsPhaseDue array × (behind : List Phase) × (phases_of array.ahead ≡ Reshape to ∷ behind)
IsNext array (Take to) = IsPhaseDue array × (behind : List Phase) × IsTakeoverNext (phases_of array.ahead) to behind
IsNext array Move = (is_reshaping array.parts.members.newest ≡ true) × (due_of array.parts.members.newest array.course array.parts.work.resync ≢ EndsReshape)
IsNext array Finish = (is_reshaping array.parts.members.newest ≡ true) × (due_of array.parts.members.newest array.course array.parts.work.resync ≡ EndsReshape)

-- the first of these phases can't be done: a role is missing, of which the lowest is told, or there are fewer spares than it takes; and a reshape doesn't begin where its backup failed
abbrev pub IsPhaseRefused : Members → List Phase → Refusal → Type 0
IsPhaseRefused members [] refusal = ⊥
IsPhaseRefused members (Reshape to ∷ behind) refusal = IsUnbegun members to refusal ⊎ (refusal ≡ BackupFault)
IsPhaseRefused members (UpTo6 to ∷ behind) refusal = IsUntaken members to refusal
IsPhaseRefused members (DownTo5 to ∷ behind) refusal = IsUntaken members to refusal

-- without a reshape a step was refused for what is missing; or nothing was left to do but the phases ahead, the first of which can't be done
abbrev pub MayEndAtRest : Work → Members → List Phase → Refusal → Type 0
MayEndAtRest work members phases refusal = IsEndedRight work members refusal ⊎ ((left_of work members ≡ 0) × IsPhaseRefused members phases refusal)

-- Such a step may have been refused so: in a reshape for what is missing now, or for the backup; or else for what is missing, or because the next phase ahead can't be done.
abbrev pub MayEndSteps : {B : Type 0} → RunningParts B → Refusal → Type 0
MayEndSteps array refusal = MatchBool (is_reshaping array.parts.members.newest) (IsEndedInReshape array.parts.work array.parts.members refusal)
    (MayEndAtRest array.parts.work array.parts.members (phases_of array.ahead) refusal)

-- a step that was refused was so for that
abbrev pub IsRefusedInStep : {B T : Type 0} → RunningParts B → Result T Fault → Type 0
IsRefusedInStep array (Ok x) = ⊤
IsRefusedInStep array (Err (IsRefusedWith refusal)) = MayEndSteps array refusal
IsRefusedInStep array (Err NoMemory) = ⊥

-- a reply to a request for steps: nothing was left to do; or so many steps are left, and a step may have been refused so that ended it
abbrev pub IsReplyNow : {B : Type 0} → RunningParts B → Event → Type 0
IsReplyNow array (Refused IsDone) = running_left array ≡ 0
IsReplyNow array (Stepped done left ended) = (left ≡ running_left array) × MatchOption ended ⊤ (MayEndSteps array)
IsReplyNow array event = ⊥
