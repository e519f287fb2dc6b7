use Rattle.crash_views.proofs.BackupLaws.{stored-closed}
use Rattle.crash_views.proofs.stored_is_closed.Goals as goal

pub returns : goal.returns
returns c = stored-closed
