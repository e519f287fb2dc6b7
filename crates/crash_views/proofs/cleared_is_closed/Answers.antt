use Rattle.crash_views.proofs.BackupLaws.{cleared-closed}
use Rattle.crash_views.proofs.cleared_is_closed.Goals as goal

pub returns : goal.returns
returns c = cleared-closed
