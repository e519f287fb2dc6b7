use Rattle.crash_views.proofs.BackupLaws.{named-open}
use Rattle.crash_views.proofs.named_sections_are_open.Goals as goal

pub returns : goal.returns
returns c = named-open
