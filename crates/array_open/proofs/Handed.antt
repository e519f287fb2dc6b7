-- Of the bank that was taken over, and of the one that was handed back.
use Rattle.std.proofs.Common.{◌≡◌, ℕ, List, Option, Result, Ok, Err, sym, subst}
use Rattle.std.specs.Prelude.{IfOk, IfErr}
use Rattle.array_create_assemble.specs.raid_types_the_Fault.{Fault}
use Rattle.array_create_assemble.specs.raid_types_the_Fault_TheVariants.{Refused, NoMemory}
use Rattle.array_create_assemble.specs.raid_types_the_Refusal.{Refusal}
use Rattle.array_create_assemble.specs.bank_the_Operation.{Operation}
use Rattle.array_create_assemble.specs.sb_specs_the_Members.{Members}
use Rattle.array_steps.specs.array_specs_Parts.{RunningParts}
use Rattle.array_steps.specs.array_call_specs_Adopting.{IsAdopted}

pub adopted-on : {B E : Type 0} (tells : Type 0) (bank : B) (tape : List Operation) (given : ℕ) (backup : Option ℕ) (members : Members) (result : Result (RunningParts B) E) (P : B → Type 0)
    → IfOk result (λ made. IsAdopted tells bank tape given backup members made.parts) → P bank → IfOk result (λ made. P made.parts.bank)
adopted-on tells bank tape given backup members (Ok made) P adopted here = subst P (sym adopted.bank_is) here
adopted-on tells bank tape given backup members (Err e) P adopted here = tt

pub back-on : {B T : Type 0} (bank : B) (result : Result T (B × Fault)) (P : B → Type 0) → IfErr result (λ e. e.0 ≡ bank) → P bank → IfErr result (λ e. P e.0)
back-on bank (Ok made) P same here = tt
back-on bank (Err e) P same here = subst P (sym same) here

pub ok-any : {T E : Type 0} (result : Result T E) (P : Type 0) → P → IfOk result (λ made. P)
ok-any (Ok made) P fact = fact
ok-any (Err e) P fact = tt

-- want of memory is no refusal
pub never-refused : (refusal : Refusal) → NoMemory ≡ Refused refusal → ⊥
never-refused refusal same = absurd (cc)
