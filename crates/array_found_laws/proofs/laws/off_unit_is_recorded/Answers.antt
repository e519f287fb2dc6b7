use Rattle.array_found_laws.proofs.Causes.{off-unit-told, accepted-on-unit}
use Rattle.array_found_laws.proofs.laws.off_unit_is_recorded.Goals as goal

pub returns-clause-told : goal.returns-clause-told
returns-clause-told c = off-unit-told

pub returns-clause-none : goal.returns-clause-none
returns-clause-none c = accepted-on-unit
