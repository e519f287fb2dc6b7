-- Which refusal of a read or a write of an array in a reshape is the first.
use Rattle.std.specs.Prelude.{ℕ, ◌≡◌, ◌+◌, Option, Some, None, Result, Ok, Err, ⊤}
use Rattle.array_fixed_laws.specs.raid_types_the_Fault.{Fault}
use Rattle.array_fixed_laws.specs.raid_types_the_Fault_TheVariants.{Refused as IsRefusedWith, NoMemory}
use Rattle.array_fixed_laws.specs.raid_types_the_Refusal.{Refusal}
use Rattle.array_fixed_laws.specs.array_reshaping_state_First.{list_refusal}
use Rattle.array_fixed_laws.specs.sb_safe_updates_First.{call_refusal}
use Rattle.array_fixed_laws.specs.array_specs_Parts.{RunningParts, visible_in}

-- what refuses a request for so many sectors from this one on before any device is touched, but for want of parity: it ends past what is visible, or else the first of them
-- lies in a shape of which too many roles are missing
abbrev pub first_refusal : {B : Type 0} → RunningParts B → ℕ → ℕ → Option Refusal
first_refusal array at count = call_refusal (visible_in array) (at + count) (list_refusal at count array.parts.members)

-- where there is such a refusal, it is the one that is answered, unless memory is short
abbrev pub IsFirstFor : {T : Type 0} → Option Refusal → Result T Fault → Type 0
IsFirstFor None result = ⊤
IsFirstFor (Some refusal) (Ok x) = ⊥
IsFirstFor (Some refusal) (Err (IsRefusedWith told)) = told ≡ refusal
IsFirstFor (Some refusal) (Err NoMemory) = ⊤
