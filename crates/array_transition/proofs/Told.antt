-- What is told of arrays that are known by their parts.
use Rattle.std.proofs.Common.{◌≡◌, ℕ, List, sym, subst}
use Rattle.array_reshaping_steps.specs.raid_types_the_Refusal.{Refusal}
use Rattle.array_reshaping_steps.specs.raid_types_the_Who.{Who}
use Rattle.array_reshaping_steps.specs.raid_types_the_Shape.{Shape}
use Rattle.array_reshaping_steps.specs.bank_the_Operation.{Operation}
use Rattle.array_reshaping_steps.specs.bank_Given.{Given, NeverFalls}
use Rattle.array_reshaping_steps.specs.history_the_Event.{Event}
use Rattle.array_reshaping_steps.specs.array_members_Lacking.{AreTooMany}
use Rattle.array_reshaping_steps.specs.array_members_Moving.{Grows}
use Rattle.array_reshaping_steps.specs.array_call_specs_Calls.{IsBehind}
use Rattle.array_reshaping_steps.specs.reshape_request_the_PhasesLeft.{PhasesLeft}
use Rattle.array_reshaping_steps.specs.array_specs_Parts.{RunningParts}
use Rattle.array_transition.specs.Begun.{IsReshapeBegun, IsGivenBack, IsBeginRefused}
use Rattle.array_transition.specs.Ended.{IsReshapeEnded}

-- ---- of one array

pub grows-as : {B : Type 0} {tells : Type 0} (tape : B → List Operation) (old old' : RunningParts B) (later : List Operation) → old ≡ old' → Grows tells (tape old'.parts.bank) later → Grows tells (tape old.parts.bank) later
grows-as {B} {tells} tape old old' later same = subst (λ (x : RunningParts B). Grows tells (tape x.parts.bank) later) (sym same)

pub falls-as : {B : Type 0} (faults : B → ℕ → ℕ) (old old' : RunningParts B) (later : ℕ → ℕ) → old ≡ old' → NeverFalls (faults old'.parts.bank) later → NeverFalls (faults old.parts.bank) later
falls-as {B} faults old old' later same = subst (λ (x : RunningParts B). NeverFalls (faults x.parts.bank) later) (sym same)

pub many-as : {B : Type 0} (new new' : RunningParts B) (refusal : Refusal) → new ≡ new' → AreTooMany new'.parts.members refusal → AreTooMany new.parts.members refusal
many-as {B} new new' refusal same = subst (λ (x : RunningParts B). AreTooMany x.parts.members refusal) (sym same)

pub unbegun-as : {B : Type 0} (faults : B → ℕ → ℕ) (to : Shape) (refusal : Refusal) (old new old' : RunningParts B) → old ≡ old' → IsBeginRefused (faults old'.parts.bank) (faults new.parts.bank) to refusal old' new
    → IsBeginRefused (faults old.parts.bank) (faults new.parts.bank) to refusal old new
unbegun-as {B} faults to refusal old new old' same = subst (λ (x : RunningParts B). IsBeginRefused (faults x.parts.bank) (faults new.parts.bank) to refusal x new) (sym same)

-- ---- of two

pub both-fall-as : {B : Type 0} (faults : B → ℕ → ℕ) (old new old' new' : RunningParts B) → old ≡ old' → new ≡ new' → NeverFalls (faults old'.parts.bank) (faults new'.parts.bank) → NeverFalls (faults old.parts.bank) (faults new.parts.bank)
both-fall-as {B} faults old new old' new' old-is new-is told =
    subst (λ (x : RunningParts B). NeverFalls (faults x.parts.bank) (faults new.parts.bank)) (sym old-is)
    (subst (λ (y : RunningParts B). NeverFalls (faults old'.parts.bank) (faults y.parts.bank)) (sym new-is) told)

pub behind-as : {B : Type 0} (who : Who) (event : Event) (old new old' new' : RunningParts B) → old ≡ old' → new ≡ new' → IsBehind who old'.parts.entries new'.parts.entries event → IsBehind who old.parts.entries new.parts.entries event
behind-as {B} who event old new old' new' old-is new-is told =
    subst (λ (x : RunningParts B). IsBehind who x.parts.entries new.parts.entries event) (sym old-is)
    (subst (λ (y : RunningParts B). IsBehind who old'.parts.entries y.parts.entries event) (sym new-is) told)

pub back-as : {B : Type 0} {tells : Type 0} (given : B → Given) (tape : B → List Operation) (who : Who) (refusal : Refusal) (old new old' new' : RunningParts B) → old ≡ old' → new ≡ new'
    → IsGivenBack tells (given old'.parts.bank) (tape old'.parts.bank) (tape new'.parts.bank) who refusal old' new'
    → IsGivenBack tells (given old.parts.bank) (tape old.parts.bank) (tape new.parts.bank) who refusal old new
back-as {B} {tells} given tape who refusal old new old' new' old-is new-is told =
    subst (λ (x : RunningParts B). IsGivenBack tells (given x.parts.bank) (tape x.parts.bank) (tape new.parts.bank) who refusal x new) (sym old-is)
    (subst (λ (y : RunningParts B). IsGivenBack tells (given old'.parts.bank) (tape old'.parts.bank) (tape y.parts.bank) who refusal old' y) (sym new-is) told)

pub refused-as : {B : Type 0} (faults : B → ℕ → ℕ) (to : Shape) (refusal : Refusal) (old new old' new' : RunningParts B) → old ≡ old' → new ≡ new'
    → IsBeginRefused (faults old'.parts.bank) (faults new'.parts.bank) to refusal old' new' → IsBeginRefused (faults old.parts.bank) (faults new.parts.bank) to refusal old new
refused-as {B} faults to refusal old new old' new' old-is new-is told =
    subst (λ (x : RunningParts B). IsBeginRefused (faults x.parts.bank) (faults new.parts.bank) to refusal x new) (sym old-is)
    (subst (λ (y : RunningParts B). IsBeginRefused (faults old'.parts.bank) (faults y.parts.bank) to refusal old' y) (sym new-is) told)

pub begun-as : {B : Type 0} {tells : Type 0} (given : B → Given) (tape : B → List Operation) (faults : B → ℕ → ℕ) (who : Who) (to : Shape) (behind : PhasesLeft) (old new old' new' : RunningParts B) → old ≡ old' → new ≡ new'
    → IsReshapeBegun tells (given old'.parts.bank) (tape old'.parts.bank) (tape new'.parts.bank) (faults old'.parts.bank) (faults new'.parts.bank) who to behind old' new'
    → IsReshapeBegun tells (given old.parts.bank) (tape old.parts.bank) (tape new.parts.bank) (faults old.parts.bank) (faults new.parts.bank) who to behind old new
begun-as {B} {tells} given tape faults who to behind old new old' new' old-is new-is told =
    subst (λ (x : RunningParts B). IsReshapeBegun tells (given x.parts.bank) (tape x.parts.bank) (tape new.parts.bank) (faults x.parts.bank) (faults new.parts.bank) who to behind x new) (sym old-is)
    (subst (λ (y : RunningParts B). IsReshapeBegun tells (given old'.parts.bank) (tape old'.parts.bank) (tape y.parts.bank) (faults old'.parts.bank) (faults y.parts.bank) who to behind old' y) (sym new-is) told)

pub ended-as : {B : Type 0} {tells : Type 0} (given : B → Given) (tape : B → List Operation) (faults : B → ℕ → ℕ) (who : Who) (old new old' new' : RunningParts B) → old ≡ old' → new ≡ new'
    → IsReshapeEnded tells (given old'.parts.bank) (tape old'.parts.bank) (tape new'.parts.bank) (faults old'.parts.bank) (faults new'.parts.bank) who old' new'
    → IsReshapeEnded tells (given old.parts.bank) (tape old.parts.bank) (tape new.parts.bank) (faults old.parts.bank) (faults new.parts.bank) who old new
ended-as {B} {tells} given tape faults who old new old' new' old-is new-is told =
    subst (λ (x : RunningParts B). IsReshapeEnded tells (given x.parts.bank) (tape x.parts.bank) (tape new.parts.bank) (faults x.parts.bank) (faults new.parts.bank) who x new) (sym old-is)
    (subst (λ (y : RunningParts B). IsReshapeEnded tells (given old'.parts.bank) (tape old'.parts.bank) (tape y.parts.bank) (faults old'.parts.bank) (faults y.parts.bank) who old' y) (sym new-is) told)
