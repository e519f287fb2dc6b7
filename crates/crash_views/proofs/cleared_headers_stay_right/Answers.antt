use Rattle.std.specs.Prelude.{⊤}
use Rattle.crash_views.proofs.BackupLaws.{clearing-right}
use Rattle.crash_views.proofs.cleared_headers_stay_right.Goals as goal

pub returns : goal.returns
returns c = clearing-right ⊤
