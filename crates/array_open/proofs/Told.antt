-- What is told of an array that is known by its parts.
use Rattle.std.proofs.Common.{◌≡◌, ℕ, List, sym, subst}
use Rattle.array_create_assemble.specs.bank_the_Operation.{Operation}
use Rattle.array_create_assemble.specs.bank_Given.{Given}
use Rattle.array_create_assemble.specs.sb_specs_the_Members.{Members}
use Rattle.array_open.specs.Adopted.{IsMovingAdopted}
use Rattle.array_steps.specs.array_specs_Parts.{RunningParts}

pub adopted-as : {B : Type 0} {tells : Type 0} (given : Given) (tape : List Operation) (slots backup : ℕ) (former : Members) (made made' : RunningParts B) → made ≡ made'
    → IsMovingAdopted tells given tape slots backup former made' → IsMovingAdopted tells given tape slots backup former made
adopted-as {B} {tells} given tape slots backup former made made' same = subst (λ (x : RunningParts B). IsMovingAdopted tells given tape slots backup former x) (sym same)
