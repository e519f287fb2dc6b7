-- A request to limit how much of a list can be read and written: what is answered, and what it leaves.
use Rattle.std.specs.Prelude.{◌≡◌, ℕ, ◌<◌, ◌++◌, nat_lt, if◌then◌else◌, List, [], ◌∷◌, length, Option, Some, None, Result, Ok, Err, ⊤}
use Rattle.std.specs.Option.{option_map_or}
use Rattle.array_reshaping_state.specs.raid_types_the_BusyKind_TheVariants.{Plan}
use Rattle.array_reshaping_state.specs.raid_types_the_Fault.{Fault}
use Rattle.array_call_laws.specs.raid_types_the_Fault_TheVariants.{Refused as IsRefusedWith, NoMemory}
use Rattle.history_invariant_laws.specs.raid_types_the_Refusal.{Refusal}
use Rattle.history_invariant_laws.specs.raid_types_the_Refusal_TheVariants.{PastSize, Busy}
use Rattle.history_invariant_laws.specs.raid_types_the_Who.{Who}
use Rattle.array_reshaping_state.specs.sb_specs_Reading.{list_length}
use Rattle.array_reshaping_state.specs.history_the_Entry.{Entry}
use Rattle.array_reshaping_state.specs.history_the_Event.{Event}
use Rattle.array_reshaping_state.specs.history_the_Event_TheVariants.{Refused}
use Rattle.array_reshaping_state.specs.history_the_Request_TheVariants.{Visible as AsksVisible}
use Rattle.array_reshaping_state.specs.history_Fits.{Fits, phases_left}
use Rattle.array_reshaping_state.specs.history_Plain.{entries_of}
use Rattle.array_reshaping_state.specs.history_World.{World}
use Rattle.array_reshaping_state.specs.reshape_request_Left.{phases_of}
use Rattle.history_invariant_laws.specs.history_invariant_Recorded.{entry_of}
use Rattle.array_specs.specs.Parts.{RunningParts}

-- why a list of so many sectors isn't limited so, with so many phases ahead: a plan is pending, or else the limit is past its end
abbrev pub visible_refusal : ℕ → ℕ → Option ℕ → Option Refusal
visible_refusal phases size limit =
    if nat_lt 0 phases then Some (Busy Plan) else option_map_or (λ wished. if nat_lt size wished then Some (PastSize size) else None) limit None

-- so an array without a reshape refuses it
abbrev pub still_refusal : {B : Type 0} → RunningParts B → Option ℕ → Option Refusal
still_refusal array limit = visible_refusal (length (phases_of array.ahead)) (list_length array.parts.members.newest) limit

-- It is limited exactly where nothing refuses it, and the answer is the visible size; else it is refused so. Memory may be short for either.
abbrev pub IsVisibleJudged : Option Refusal → ℕ → Result ℕ Fault → Type 0
IsVisibleJudged why visible (Ok count) = (why ≡ None) × (count ≡ visible)
IsVisibleJudged why visible (Err (IsRefusedWith refusal)) = why ≡ Some refusal
IsVisibleJudged why visible (Err NoMemory) = ⊤

-- The reply is entered where the tape ends. It fits the request, where the history tells a plan that is pending if there are phases ahead.
pub record IsVisibleReply (tells : Type 0) (world : World) (phases : ℕ) (limit : Option ℕ) (who : Who) (old new : List Entry) (event : Event) : Type 0 where
  pub end : ℕ
  pub at_end : tells → end ≡ length world.tape
  pub is : new ≡ old ++ entries_of who end (event ∷ [])
  pub fits : tells → (0 < phases → 0 < phases_left world old) → Fits world old (entry_of who end event) (AsksVisible limit)

-- the reply by the answer, with the event of an Ok
abbrev pub IsVisibleAnswered : Type 0 → World → ℕ → Option ℕ → Who → List Entry → List Entry → Event → Result ℕ Fault → Type 0
IsVisibleAnswered tells world phases limit who old new event (Ok count) = IsVisibleReply tells world phases limit who old new event
IsVisibleAnswered tells world phases limit who old new event (Err (IsRefusedWith refusal)) = IsVisibleReply tells world phases limit who old new (Refused refusal)
IsVisibleAnswered tells world phases limit who old new event (Err NoMemory) = new ≡ old

-- the array has this limit, and else it is as it was, but for its history
pub record IsLimitedAs {B : Type 0} (limit : Option ℕ) (old new : RunningParts B) : Type 0 where
  pub limit_is : new.limit ≡ limit
  pub bank : new.parts.bank ≡ old.parts.bank
  pub uuid : new.parts.uuid ≡ old.parts.uuid
  pub given : new.parts.given ≡ old.parts.given
  pub first : new.parts.first ≡ old.parts.first
  pub backup : new.parts.backup ≡ old.parts.backup
  pub members : new.parts.members ≡ old.parts.members
  pub work : new.parts.work ≡ old.parts.work
  pub course : new.course ≡ old.course
  pub ahead : new.ahead ≡ old.ahead
