use Rattle.crash_views.proofs.BackupLaws.{cleared-shut}
use Rattle.crash_views.proofs.cleared_headers_are_shut.Goals as goal

pub returns : goal.returns
returns c = cleared-shut
