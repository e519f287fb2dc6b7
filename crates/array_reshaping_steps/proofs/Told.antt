-- What is told of arrays that are known by their parts.
use Rattle.std.proofs.Common.{◌≡◌, ℕ, List, sym, subst}
use Rattle.array_type.specs.bank_the_Operation.{Operation}
use Rattle.array_type.specs.bank_Given.{Given}
use Rattle.array_type.specs.array_specs_Parts.{RunningParts}
use Rattle.array_type.specs.array_specs_Calls.{IsCalled}

pub called-as : {B : Type 0} {tells : Type 0} (given : B → Given) (tape : B → List Operation) (faults : B → ℕ → ℕ) (old new old' new' : RunningParts B) → old ≡ old' → new ≡ new'
    → IsCalled tells (given old'.parts.bank) (tape old'.parts.bank) (tape new'.parts.bank) (faults old'.parts.bank) (faults new'.parts.bank) old' new'
    → IsCalled tells (given old.parts.bank) (tape old.parts.bank) (tape new.parts.bank) (faults old.parts.bank) (faults new.parts.bank) old new
called-as {B} {tells} given tape faults old new old' new' old-is new-is called =
    subst (λ (x : RunningParts B). IsCalled tells (given x.parts.bank) (tape x.parts.bank) (tape new.parts.bank) (faults x.parts.bank) (faults new.parts.bank) x new) (sym old-is)
    (subst (λ (y : RunningParts B). IsCalled tells (given old'.parts.bank) (tape old'.parts.bank) (tape y.parts.bank) (faults old'.parts.bank) (faults y.parts.bank) old' y) (sym new-is) called)
