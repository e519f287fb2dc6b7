use Rattle.array_found_laws.proofs.Causes.{lacking-told, lacking-refused}
use Rattle.array_found_laws.proofs.laws.a_missing_backup_is_recorded.Goals as goal

pub returns-clause-told : goal.returns-clause-told
returns-clause-told c = lacking-told

pub returns-clause-refused : goal.returns-clause-refused
returns-clause-refused c = lacking-refused
