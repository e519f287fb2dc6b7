-- What is told of an array by its parts is told of the array.
use Rattle.std.proofs.Common.{◌≡◌, ℕ, ◌*◌, ◌<◌, ◌≤◌, List, sym, ◌∙◌, ap, subst, arith}
use Rattle.array_takeover_laws.specs.raid_types_the_Refusal.{Refusal}
use Rattle.array_takeover_laws.specs.raid_types_the_Who.{Who}
use Rattle.array_takeover_laws.specs.raid_types_the_Shape.{Shape}
use Rattle.array_fixed_sync.specs.bank_the_Operation.{Operation}
use Rattle.array_fixed_sync.specs.bank_Given.{Given}
use Rattle.array_fixed_sync.specs.reshape_request_the_PhasesLeft.{PhasesLeft}
use Rattle.array_fixed_sync.specs.array_specs_Parts.{RunningParts}
use Rattle.array_takeover.specs.TakenOver.{IsUntaken, IsUntouched, IsLevelTaken}

pub untaken-as : {B : Type 0} (to : Shape) (refusal : Refusal) (old old' : RunningParts B) → old ≡ old' → IsUntaken old'.parts.members to refusal → IsUntaken old.parts.members to refusal
untaken-as {B} to refusal old old' same = subst (λ (x : RunningParts B). IsUntaken x.parts.members to refusal) (sym same)

pub untouched-as : {B : Type 0} {tells : Type 0} (tape : B → List Operation) (who : Who) (refusal : Refusal) (old new old' : RunningParts B) → old ≡ old' → IsUntouched tells (tape old'.parts.bank) who refusal old' new
    → IsUntouched tells (tape old.parts.bank) who refusal old new
untouched-as {B} {tells} tape who refusal old new old' same = subst (λ (x : RunningParts B). IsUntouched tells (tape x.parts.bank) who refusal x new) (sym same)

pub both-given : {B : Type 0} (given : B → Given) (old new old' new' : RunningParts B) → old ≡ old' → new ≡ new' → given new'.parts.bank ≡ given old'.parts.bank → given new.parts.bank ≡ given old.parts.bank
both-given {B} given old new old' new' old-is new-is told = ap (λ (x : RunningParts B). given x.parts.bank) new-is ∙ told ∙ sym (ap (λ (x : RunningParts B). given x.parts.bank) old-is)

pub taken-as : {B : Type 0} {tells : Type 0} (given : B → Given) (tape : B → List Operation) (faults : B → ℕ → ℕ) (who : Who) (to : Shape) (behind : PhasesLeft) (old new old' new' : RunningParts B) → old ≡ old' → new ≡ new'
    → IsLevelTaken tells (given old'.parts.bank) (tape old'.parts.bank) (tape new'.parts.bank) (faults old'.parts.bank) (faults new'.parts.bank) who to behind old' new'
    → IsLevelTaken tells (given old.parts.bank) (tape old.parts.bank) (tape new.parts.bank) (faults old.parts.bank) (faults new.parts.bank) who to behind old new
taken-as {B} {tells} given tape faults who to behind old new old' new' old-is new-is told =
    subst (λ (x : RunningParts B). IsLevelTaken tells (given x.parts.bank) (tape x.parts.bank) (tape new.parts.bank) (faults x.parts.bank) (faults new.parts.bank) who to behind x new) (sym old-is)
    (subst (λ (y : RunningParts B). IsLevelTaken tells (given old'.parts.bank) (tape old'.parts.bank) (tape y.parts.bank) (faults old'.parts.bank) (faults y.parts.bank) who to behind old' y) (sym new-is) told)

pub room-for : (n steps room : ℕ) → 50 * steps < room → 1 ≤ steps → n ≤ 50 → n ≤ room
room-for n steps room left some few = omega arith
