use Rattle.array_found_laws.proofs.Causes.{backups-without, lost-backup}
use Rattle.array_found_laws.proofs.laws.a_lost_backup_is_refused.Goals as goal

pub returns-clause-same : goal.returns-clause-same
returns-clause-same c = backups-without

pub returns-clause-refused : goal.returns-clause-refused
returns-clause-refused c = lost-backup
