-- Why an array answers a line as it does, by the record of it: what contracts see of the array. No bank is asked.
use Rattle.std.specs.Prelude.{◌≡◌, ℕ, ◌<◌, List, slice_get, Some, None, MatchOption, ⊤}
use Rattle.array_requests.specs.raid_types_the_Refusal.{Refusal}
use Rattle.array_requests.specs.raid_types_the_Refusal_TheVariants.{SlotFault}
use Rattle.array_requests.specs.bank_Given.{Given}
use Rattle.script.specs.reshape_plan_Plans.{phases, phases_steps}
use Rattle.array_requests.specs.sb_specs_Reading.{shape_of, list_length}
use Rattle.script.specs.history_the_Entry.{Entry}
use Rattle.script.specs.history_the_Event.{Event}
use Rattle.script.specs.history_the_Event_TheVariants.{Visible, Planned, Stepped, Refused}
use Rattle.script.specs.history_Flat.{visible_of}
use Rattle.array_requests.specs.reshape_request_Asked.{grow_refusal}
use Rattle.array_requests.specs.array_call_specs_Calls.{HasRole, IsUnaddable}
use Rattle.array_requests.specs.array_grow_Planned.{asked_in}
use Rattle.array_requests.specs.array_Calls.{running_left}
use Rattle.array_requests.specs.array_reply_specs_Limits.{limit_refusal}
use Rattle.array_requests.specs.array_specs_Parts.{RunningParts, visible_size, visible_in}
use Rattle.script.specs.declared.lines.Line.{Line}
use Rattle.script.specs.declared.lines.Line.TheVariants.{Fail, Add, ArraySize, Grow, Step, Detail, Mdstat}
use Rattle.run_specs.specs.Showing.{TellsArray}

-- What contracts see of a running array, without its bank: its history and its backup, what is known of its superblocks, what is under way in it, how far a reshape has come, the phases ahead, and
-- its limit.
abbrev pub Record : Type 0
Record = RunningParts ⊤

abbrev pub record_of : {B : Type 0} → RunningParts B → Record
record_of array = record {
  parts = record {
    bank = tt;
    uuid = array.parts.uuid;
    given = array.parts.given;
    first = array.parts.first;
    last = array.parts.last;
    entries = array.parts.entries;
    backup = array.parts.backup;
    members = array.parts.members;
    work = array.parts.work;
    steps = array.parts.steps;
  };
  course = array.course;
  ahead = array.ahead;
  limit = array.limit;
}

-- nothing speaks against adding the slot
abbrev pub IsAddable : Given → Record → ℕ → Type 0
IsAddable given array slot = (refusal : Refusal) → IsUnaddable given array.parts.backup slot array.parts.members refusal → ⊥

-- what can be read and written of the list is what the history tells
abbrev pub IsSeen : Record → Type 0
IsSeen array = visible_in array ≡ visible_of (list_length array.parts.members.newest) array.parts.entries

-- An array of this record answers the line so, as the calls of `Running` say: it refuses a fail, an add, a limit, a grow or a step exactly for what speaks against it, the first of it in the order of
-- its kind; a slot that fails is refused only where nothing else speaks against it. A limit is answered with what can be seen then, a plan with its steps, and the array shows itself as it is.
abbrev pub IsJudgedBy : Given → Record → Line → Event → Type 0
IsJudgedBy given array (Fail role) (Refused refusal) = HasRole array.parts.members role → ⊥
IsJudgedBy given array (Fail role) event = HasRole array.parts.members role
IsJudgedBy given array (Add slot) (Refused (SlotFault failed)) = IsAddable given array slot
IsJudgedBy given array (Add slot) (Refused refusal) = IsUnaddable given array.parts.backup slot array.parts.members refusal
IsJudgedBy given array (Add slot) event = IsAddable given array slot
IsJudgedBy given array (ArraySize limit) (Refused refusal) = limit_refusal array limit ≡ Some refusal
IsJudgedBy given array (ArraySize limit) (Visible wished count) = (limit_refusal array limit ≡ None) × (count ≡ visible_size array.parts.members limit)
IsJudgedBy given array (Grow wish) (Refused refusal) = IsSeen array × (grow_refusal (asked_in given array) wish ≡ Some refusal)
IsJudgedBy given array (Grow wish) (Planned left wished) = IsSeen array × (grow_refusal (asked_in given array) wish ≡ None)
    × (left ≡ phases_steps (shape_of array.parts.members.newest) array.parts.members.newest.size (phases (shape_of array.parts.members.newest) wish))
IsJudgedBy given array (Step most) (Refused refusal) = running_left array ≡ 0
IsJudgedBy given array (Step most) (Stepped done left ended) = 0 < running_left array
IsJudgedBy given array Detail event = TellsArray array event
IsJudgedBy given array Mdstat event = TellsArray array event
IsJudgedBy given array line event = ⊤

-- so it is of the reply at this place
abbrev pub IsJudgedAt : Given → Record → Line → List Entry → ℕ → Type 0
IsJudgedAt given array line entries place = MatchOption (slice_get entries place) ⊥ (λ e. IsJudgedBy given array line e.event)
