-- A running array keeps what it keeps over a request to limit its list, done or refused.
use Rattle.std.proofs.Common.{◌≡◌, ℕ, Bool, true, false, Option, Some, Result, Ok, Err, List, [], ◌∷◌, refl, sym, ◌∙◌, ap, subst}
use Rattle.std.specs.Prelude.{if◌then◌else◌, IsErr}
use Rattle.array_call_specs.specs.raid_types_the_Fault.{Fault}
use Rattle.array_call_specs.specs.raid_types_the_Fault_TheVariants.{Refused as IsRefusedWith, NoMemory}
use Rattle.array_call_specs.specs.raid_types_the_BusyKind_TheVariants.{Reshape}
use Rattle.array_call_specs.specs.raid_types_the_Refusal.{Refusal}
use Rattle.array_call_specs.specs.raid_types_the_Refusal_TheVariants.{Busy}
use Rattle.array_call_specs.specs.raid_types_the_Who.{Who}
use Rattle.bank.specs.Given.{Given}
use Rattle.bank.specs.declared.bank.Operation.{Operation}
use Rattle.array_open.specs.sb_specs_the_Members.{Members}
use Rattle.array_open.specs.sb_specs_Reading.{is_reshaping, shape_of, final_shape}
use Rattle.history_append.specs.history_the_Entry.{Entry}
use Rattle.history_append.specs.history_the_Event.{Event}
use Rattle.history_append.specs.history_the_Event_TheVariants.{Visible, Refused}
use Rattle.history_append.specs.history_the_Request_TheVariants.{Visible as AsksVisible}
use Rattle.history_append.specs.history_Plain.{entries_of}
use Rattle.history_append.specs.history_World.{World}
use Rattle.array_open.specs.array_members_the_Work.{Work}
use Rattle.array_open.specs.array_members_Placed.{AreWhole}
use Rattle.array_open.specs.array_call_specs_Calls.{by_answer}
use Rattle.array_open.specs.array_specs_Parts.{RunningParts}
use Rattle.array_open.specs.array_specs_Visible.{still_refusal, IsVisibleJudged, IsVisibleAnswered, IsLimitedAs}
use Rattle.array_open.specs.array_reply_specs_Limits.{limit_refusal}
use Rattle.array_open.specs.array_grow_Planned.{IsAsBefore, IsJudged, IsReplied}
use Rattle.array_open.proofs.array_fixed_laws_PlansKept.{AddNoPlan, add-nothing}
use Rattle.array_open.specs.array_State.{IsStillNow, IsWithin, IsAtRest, IsInReshape}
use Rattle.array_open.proofs.array_Closed.{closed-kept}
use Rattle.array_open.proofs.array_Kept.{rest-kept, reshape-kept}
use Rattle.array_requests.proofs.PlanLaws.{history-leaves, history-on}

-- ---- by the state

pub limit-still : {B : Type 0} (array : RunningParts B) (limit : Option ℕ) → is_reshaping array.parts.members.newest ≡ false → limit_refusal array limit ≡ still_refusal array limit
limit-still array limit still = ap (λ (b : Bool). if b then Some (Busy Reshape) else still_refusal array limit) still

pub limit-moving : {B : Type 0} (array : RunningParts B) (limit : Option ℕ) → is_reshaping array.parts.members.newest ≡ true → limit_refusal array limit ≡ Some (Busy Reshape)
limit-moving array limit active = ap (λ (b : Bool). if b then Some (Busy Reshape) else still_refusal array limit) active

pub judged-still : {B : Type 0} (array : RunningParts B) (limit : Option ℕ) (visible : ℕ) (result : Result ℕ Fault) → is_reshaping array.parts.members.newest ≡ false → IsVisibleJudged (still_refusal array limit) visible result
    → IsVisibleJudged (limit_refusal array limit) visible result
judged-still array limit visible result still judged = subst (λ (o : Option Refusal). IsVisibleJudged o visible result) (sym (limit-still array limit still)) judged

-- in a reshape each is refused
pub judged-moving : {B : Type 0} (array : RunningParts B) (limit : Option ℕ) (visible : ℕ) (result : Result ℕ Fault) → is_reshaping array.parts.members.newest ≡ true → IsErr result → IsJudged (Some (Busy Reshape)) result
    → IsVisibleJudged (limit_refusal array limit) visible result
judged-moving array limit visible (Ok x) active err judged = absurd (cc)
judged-moving array limit visible (Err (IsRefusedWith refusal)) active err judged = limit-moving array limit active ∙ judged
judged-moving array limit visible (Err NoMemory) active err judged = tt

-- what it leaves then is by the answer too
pub limited-moving : {B : Type 0} (limit : Option ℕ) (old new : RunningParts B) (result : Result ℕ Fault) → IsErr result → IsLimitedAs old.limit old new → IsLimitedAs (by_answer result limit old.limit) old new
limited-moving limit old new (Ok x) err was = absurd (cc)
limited-moving limit old new (Err fault) err was = was

-- ---- the reply

module _ (tells : Type 0) (world : World) (phases : ℕ) (members : Members) (limit : Option ℕ) (who : Who) (old new : List Entry) where
  -- it fits the request whatever the superblocks say, without a reshape
  pub replied-still : (event : Event) (result : Result ℕ Fault) → IsVisibleAnswered tells world phases limit who old new event result → IsReplied tells world phases members (AsksVisible limit) who old new event result
  replied-still event (Ok x) is = record { end = is.end; at_end = is.at_end; is = is.is; fits = λ t right told read. is.fits t told }
  replied-still event (Err (IsRefusedWith refusal)) is = record { end = is.end; at_end = is.at_end; is = is.is; fits = λ t right told read. is.fits t told }
  replied-still event (Err NoMemory) is = is

  -- what would have been told of an Ok doesn't matter where there is none
  pub replied-moving : (event other : Event) (result : Result ℕ Fault) → IsErr result → IsReplied tells world phases members (AsksVisible limit) who old new event result → IsReplied tells world phases members (AsksVisible limit) who old new other result
  replied-moving event other (Ok x) err is = absurd (cc)
  replied-moving event other (Err (IsRefusedWith refusal)) err is = is
  replied-moving event other (Err NoMemory) err is = is

  -- it is no plan
  add-limited : (count : ℕ) (result : Result ℕ Fault) → IsReplied tells world phases members (AsksVisible limit) who old new (Visible limit count) result → AddNoPlan old new
  add-limited count (Ok x) is = record { more = entries_of who is.end (Visible limit count ∷ []); grown = is.is; none = refl }
  add-limited count (Err (IsRefusedWith refusal)) is = record { more = entries_of who is.end (Refused refusal ∷ []); grown = is.is; none = refl }
  add-limited count (Err NoMemory) is = add-nothing is

-- ---- what it leaves

pub as-before : {B : Type 0} {limit : Option ℕ} {old new : RunningParts B} → IsLimitedAs limit old new → IsAsBefore old new
as-before was = record {
  bank = was.bank;
  uuid = was.uuid;
  given = was.given;
  first = was.first;
  backup = was.backup;
  members = was.members;
  work = was.work;
  course = was.course;
}

module _ {B : Type 0} {tells : Type 0} (given : B → Given) (tape : B → List Operation) (old new : RunningParts B) {limit : Option ℕ} (did : IsLimitedAs limit old new)
    (world : World) (phases : ℕ) (members : Members) (asked : Option ℕ) (who : Who) (count : ℕ) (result : Result ℕ Fault) (replied : IsReplied tells world phases members (AsksVisible asked) who old.parts.entries new.parts.entries (Visible asked count) result) where
  pub rest-limited : (window : ℕ) → IsStillNow new → IsWithin tells (given new.parts.bank) (tape new.parts.bank) new → IsAtRest tells (given old.parts.bank) (tape old.parts.bank) window old → IsAtRest tells (given new.parts.bank) (tape new.parts.bank) window new
  rest-limited window now within was =
      let added = add-limited tells world phases members asked who old.parts.entries new.parts.entries count result replied in
      rest-kept given tape window old new (history-on given tape old new (as-before did) added) (history-leaves old new (as-before did) did.ahead) now within
      (closed-kept old new (ap (λ (w : Work). w.resync) did.work) did.ahead (λ whole. subst AreWhole did.members whole) added was.closed) was

  pub reshape-limited : is_reshaping new.parts.members.newest ≡ true → IsWithin tells (given new.parts.bank) (tape new.parts.bank) new → IsInReshape tells (given old.parts.bank) (tape old.parts.bank) old → IsInReshape tells (given new.parts.bank) (tape new.parts.bank) new
  reshape-limited active within was =
      reshape-kept given tape old new (history-on given tape old new (as-before did) (add-limited tells world phases members asked who old.parts.entries new.parts.entries count result replied)) (ap (λ (m : Members). shape_of m.newest) did.members) (ap (λ (m : Members). final_shape m.newest) did.members) did.ahead active within was
