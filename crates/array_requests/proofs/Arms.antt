-- What a request was answered, by which request it is.
use Rattle.std.proofs.Common.{◌≡◌, Result, Ok, Err, List, sym, subst}
use Rattle.std.specs.Prelude.{IfOk, IfErr}
use Rattle.array_call_specs.specs.raid_types_the_Who.{Who}
use Rattle.array_call_specs.specs.raid_types_the_Fault.{Fault}
use Rattle.array_call_specs.specs.raid_types_the_Fault_TheVariants.{Refused as IsRefusedWith, NoMemory as WantsMemory}
use Rattle.bank.specs.raid_types_the_NoMemory.{NoMemory}
use Rattle.history_append.specs.history_the_Entry.{Entry}
use Rattle.history_append.specs.history_the_Event.{Event}
use Rattle.history_append.specs.history_the_Request.{Request}
use Rattle.array_open.specs.array_call_specs_Calls.{OnNoMemory}
use Rattle.array_open.specs.array_specs_Parts.{RunningParts}
use Rattle.array_requests.specs.Entered.{RestsBehind}
use Rattle.array_requests.specs.Replies.{told_by, IsPerformed, IsCountedBy}

-- where the event isn't told, memory was short
pub told-unchanged : {T : Type 0} (Fact : Type 0) (event : Event) (result : Result T Fault) (told : Result Event NoMemory) → told ≡ told_by result event → OnNoMemory result Fact → IfErr told (λ none. Fact)
told-unchanged Fact event (Ok x) told is fact = subst (λ (r : Result Event NoMemory). IfErr r (λ none. Fact)) (sym is) tt
told-unchanged Fact event (Err (IsRefusedWith refusal)) told is fact = subst (λ (r : Result Event NoMemory). IfErr r (λ none. Fact)) (sym is) tt
told-unchanged Fact event (Err WantsMemory) told is fact = subst (λ (r : Result Event NoMemory). IfErr r (λ none. Fact)) (sym is) fact

pub performed-as : {B : Type 0} (request asked : Request) (who : Who) (old : RunningParts B) (new : List Entry) (result : Result Event NoMemory) → request ≡ asked
    → IfOk result (λ event. IsPerformed asked who old new event) → IfOk result (λ event. IsPerformed request who old new event)
performed-as request asked who old new result is did = subst (λ (q : Request). IfOk result (λ event. IsPerformed q who old new event)) (sym is) did

pub counted-as : {B : Type 0} (request asked : Request) (old new : RunningParts B) (result : Result Event NoMemory) → request ≡ asked
    → IfOk result (λ event. IsCountedBy asked old new event) → IfOk result (λ event. IsCountedBy request old new event)
counted-as request asked old new result is did = subst (λ (q : Request). IfOk result (λ event. IsCountedBy q old new event)) (sym is) did

pub rests-as : {B : Type 0} (request asked : Request) (new : RunningParts B) (result : Result Event NoMemory) → request ≡ asked
    → IfOk result (λ event. RestsBehind asked new) → IfOk result (λ event. RestsBehind request new)
rests-as request asked new result is did = subst (λ (q : Request). IfOk result (λ event. RestsBehind q new)) (sym is) did
