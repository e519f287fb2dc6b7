use Rattle.crash_views.proofs.BackupLaws.{named-is-open}
use Rattle.crash_views.proofs.named_is_open.Goals as goal

pub returns : goal.returns
returns c = named-is-open
