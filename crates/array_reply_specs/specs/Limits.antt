-- A request to limit how much of a running array's list can be read and written: what speaks against it.
use Rattle.std.specs.Prelude.{ℕ, if◌then◌else◌, Option, Some}
use Rattle.bank.specs.raid_types_the_BusyKind_TheVariants.{Reshape}
use Rattle.bank.specs.raid_types_the_Refusal.{Refusal}
use Rattle.bank.specs.raid_types_the_Refusal_TheVariants.{Busy}
use Rattle.array_specs.specs.sb_specs_Reading.{is_reshaping}
use Rattle.array_specs.specs.Parts.{RunningParts}
use Rattle.array_specs.specs.Visible.{still_refusal}

-- the first of the refusals: a reshape is active, or else a plan is pending, or the limit is past the list's end
abbrev pub limit_refusal : {B : Type 0} → RunningParts B → Option ℕ → Option Refusal
limit_refusal array limit = if is_reshaping array.parts.members.newest then Some (Busy Reshape) else still_refusal array limit
