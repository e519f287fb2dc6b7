use Rattle.crash_views.proofs.BackupLaws.{naming-unsure}
use Rattle.crash_views.proofs.naming_is_uncertain.Goals as goal

pub returns : goal.returns
returns c = naming-unsure
