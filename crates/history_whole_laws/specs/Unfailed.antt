-- What is told where no device failed.
use Rattle.std.specs.Prelude.{◌≡◌, Some, IfSome, ⊤}
use Rattle.history.specs.bank_Tape.{Contents}
use Rattle.history.specs.raid_types_the_Refusal.{Refusal}
use Rattle.history.specs.raid_types_the_Refusal_TheVariants.{BackupFault, SlotFault}
use Rattle.history.specs.sb_specs_Reading.{Scope}
use Rattle.history.specs.declared.events.Event.{Event}
use Rattle.history.specs.declared.events.Event.TheVariants.{Lost, SpareLost, Stepped, Refused}
use Rattle.history.specs.declared.events.LostCause.TheVariants.{Fault}
use Rattle.history.specs.Stands.{verdict}

-- the refusal is for something else than a device that failed
abbrev pub IsForNoFailure : Refusal → Type 0
IsForNoFailure (SlotFault slot) = ⊥
IsForNoFailure BackupFault = ⊥
IsForNoFailure refusal = ⊤

-- the event tells no failure of a device: no role or spare that is lost by one, and no refusal for one
abbrev pub TellsNoFailure : Event → Type 0
TellsNoFailure (Lost role Fault) = ⊥
TellsNoFailure (SpareLost slot) = ⊥
TellsNoFailure (Stepped done left ended) = IfSome ended IsForNoFailure
TellsNoFailure (Refused refusal) = IsForNoFailure refusal
TellsNoFailure event = ⊤

-- What an assembly finds in the slots that are there is refused for what they hold, and not for a failure.
abbrev pub VerdictsTellNoFailure : Type 0
VerdictsTellNoFailure = (scope : Scope) (c : Contents) (refusal : Refusal) → verdict scope c ≡ Some refusal → IsForNoFailure refusal
