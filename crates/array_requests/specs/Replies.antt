-- The replies to a caller's requests.
use Rattle.std.specs.Prelude.{◌≡◌, ℕ, ◌+◌, ◌<◌, ◌≤◌, ◌^◌, ◌++◌, List, [], ◌∷◌, length, Result, Ok, Err, ⊤}
use Rattle.array_call_specs.specs.raid_types_the_Who.{Who}
use Rattle.array_call_specs.specs.raid_types_the_Fault.{Fault}
use Rattle.array_call_specs.specs.raid_types_the_Fault_TheVariants.{Refused as IsRefusedWith, NoMemory as WantsMemory}
use Rattle.bank.specs.raid_types_the_NoMemory.{NoMemory}
use Rattle.array_call_specs.specs.raid_types_the_Status.{Status}
use Rattle.array_open.specs.sb_specs_Reading.{list_length}
use Rattle.history_append.specs.history_the_Entry.{Entry}
use Rattle.history_append.specs.history_the_Event.{Event}
use Rattle.history_append.specs.history_the_Event_TheVariants.{Shown, Refused}
use Rattle.history_append.specs.history_the_Request.{Request}
use Rattle.history_append.specs.history_the_Request_TheVariants.{Read as AsksRead, Write as AsksWrite, Flush as AsksFlush, Fail as AsksFail, Add as AsksAdd, Visible as AsksVisible, Grow as AsksGrow, Steps as AsksSteps, Show as AsksShow}
use Rattle.history_append.specs.history_Flat.{length_of, limit_of}
use Rattle.array_open.specs.array_specs_Parts.{RunningParts}
use Rattle.array_open.specs.array_reply_specs_Replies.{IsAnsweredWith}
use Rattle.array_open.specs.array_Calls.{running_left, IsShownAs}
use Rattle.array_open.specs.array_steps_Steps.{IsStepCount}
use Rattle.array_requests.specs.declared.reply.Reply.{Reply}
use Rattle.array_requests.specs.declared.reply.Reply.TheVariants.{Done, NoMemory as Short}

-- a request that can be answered: 1 to 128 sectors are read or written, and a step is asked for at least
abbrev pub IsAskable : Request → Type 0
IsAskable (AsksRead at count) = (1 ≤ count) × (count ≤ 128) × (at + count < 2 ^ 63)
IsAskable (AsksWrite at body) = (1 ≤ length body) × (length body ≤ 128) × (at + length body < 2 ^ 63)
IsAskable AsksFlush = ⊤
IsAskable (AsksFail role) = ⊤
IsAskable (AsksAdd slot) = ⊤
IsAskable (AsksVisible limit) = ⊤
IsAskable (AsksGrow wish) = ⊤
IsAskable (AsksSteps most) = 1 ≤ most
IsAskable AsksShow = ⊤

-- The history tells the list's length, where it tells one, and how much of it can be read and written.
pub record TellsSizes {B : Type 0} (array : RunningParts B) : Type 0 where
  pub sized : length_of (list_length array.parts.members.newest) array.parts.entries ≡ list_length array.parts.members.newest
  pub limited : limit_of array.parts.entries ≡ array.limit

-- the event of a call's last entry, by its answer and the event of an Ok
abbrev pub told_by : {T : Type 0} → Result T Fault → Event → Result Event NoMemory
told_by (Ok x) event = Ok event
told_by (Err (IsRefusedWith refusal)) event = Ok (Refused refusal)
told_by (Err WantsMemory) event = Err (record {})

-- The array was shown as it is, with at most 16 roles and 32 spares.
pub record IsShownBy {B : Type 0} (who : Who) (old : RunningParts B) (new : List Entry) (event : Event) : Type 0 where
  pub status : Status
  pub end : ℕ
  pub event_is : event ≡ Shown status
  pub told : IsShownAs old status
  pub few : (length status.roles ≤ 16) × (length status.spares ≤ 32)
  pub is : new ≡ old.parts.entries ++ record { caller = who.caller; number = who.number; end = end; event = event } ∷ []

-- a request was answered by this event, in the last entry
abbrev pub IsPerformed : {B : Type 0} → Request → Who → RunningParts B → List Entry → Event → Type 0
IsPerformed AsksShow who old new event = IsShownBy who old new event
IsPerformed request who old new event = IsAnsweredWith (list_length old.parts.members.newest) request who old.parts.entries new event

-- the reply tells that event, and where the last entry is; or memory was short, and nothing was done
abbrev pub IsRepliedBy : {B : Type 0} → Request → Who → RunningParts B → RunningParts B → Reply → Type 0
IsRepliedBy request who old new (Done at event) = IsPerformed request who old new.parts.entries event × (at + 1 ≡ length new.parts.entries)
IsRepliedBy request who old new Short = new ≡ old

-- a request for steps tells how many were done and how many are left
abbrev pub IsCountedBy : {B : Type 0} → Request → RunningParts B → RunningParts B → Event → Type 0
IsCountedBy (AsksSteps most) old new event = IsStepCount old.parts.entries new.parts.entries (running_left old) (running_left new) event
IsCountedBy request old new event = ⊤

-- a fact that holds where the request was done, of its event
abbrev pub OnReply : Reply → (Event → Type 0) → Type 0
OnReply (Done at event) Fact = Fact event
OnReply Short Fact = ⊤
