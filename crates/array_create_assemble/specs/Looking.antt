-- What is known while the slots of a bank are read and flushed.
use Rattle.std.specs.Prelude.{◌≡◌, ◌⊎◌, ℕ, List, [], length, slice_index, Option, Some, None, Result, Ok, Err}
use Rattle.bank.specs.raid_types_the_Fault.{Fault}
use Rattle.bank.specs.raid_types_the_Fault_TheVariants.{Refused, NoMemory}
use Rattle.array_found_laws.specs.raid_types_the_Refusal.{Refusal}
use Rattle.array_found_laws.specs.sb_codec_the_Sb.{Sb}
use Rattle.array_found_laws.specs.sb_specs_Reading.{Scope, Reading, reading_of}
use Rattle.array_found_laws.specs.sb_specs_Verdict.{members_verdict}
use Rattle.array_found_laws.specs.sb_specs_Election.{IsElected}
use Rattle.sb_add_spare.specs.history_Stands.{backup_absent}
use Rattle.array_create_assemble.specs.declared.opening.Opened.{Opened}

-- these slots, with these lengths, looked at for no array
abbrev pub lengths_scope : Option ℕ → ℕ → List ℕ → Scope
lengths_scope backup given lengths = record { uuid = []; given = given; backup = backup; sizes = record { slots = length lengths; sectors = slice_index lengths } }

-- these superblocks are refused for nothing, but a reshape is active that has no backup
pub record IsLacking (scope : Scope) (own : List (Option Sb)) (refusal : Refusal) : Type 0 where
  pub accepted : members_verdict scope.sizes.sectors own ≡ None
  pub found : Reading
  pub says : reading_of scope.sizes.sectors own ≡ Some found
  pub lacking : backup_absent scope found.newest ≡ Some refusal

-- the members that these superblocks of an array's slots make, where nothing is refused
pub record IsMade (scope : Scope) (own : List (Option Sb)) (lost : ℕ) (opened : Opened) : Type 0 where
  pub elected : IsElected scope.sizes.sectors own lost opened.members
  pub given : opened.given ≡ scope.given
  pub backed : backup_absent scope opened.members.newest ≡ None

abbrev pub IsJudged : Scope → List (Option Sb) → ℕ → Result Opened Fault → Type 0
IsJudged scope own lost (Ok opened) = IsMade scope own lost opened
IsJudged scope own lost (Err (Refused refusal)) = (members_verdict scope.sizes.sectors own ≡ Some refusal) ⊎ IsLacking scope own refusal
IsJudged scope own lost (Err NoMemory) = Unit {0}
