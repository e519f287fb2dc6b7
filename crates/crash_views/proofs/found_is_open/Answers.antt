use Rattle.crash_views.proofs.BackupLaws.{found-open}
use Rattle.crash_views.proofs.found_is_open.Goals as goal

pub returns : goal.returns
returns c = found-open
