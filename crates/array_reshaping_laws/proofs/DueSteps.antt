-- The next window of a reshape is to be entered: what the step asks of the array is so.
use Rattle.std.proofs.Common.{ℕ, Option}
use Rattle.array_fixed_laws.specs.array_reshaping_state_Due.{IsDue}
use Rattle.array_fixed_laws.specs.array_reshaping_state_the_Due_TheVariants.{Enter}
use Rattle.array_fixed_laws.specs.array_specs_Parts.{RunningParts}
use Rattle.array_fixed_laws.specs.array_specs_Calls.{IsEnterDue}

-- whether it is unsure or not
pub enter-due : {B : Type 0} (array : RunningParts B) (resync : Option ℕ) → IsDue array.parts.members.newest array.course resync Enter → IsEnterDue array
enter-due array resync due = record { span = due.0; is = due.1; next = due.2 }
