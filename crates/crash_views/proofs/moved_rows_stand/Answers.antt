use Rattle.crash_views.proofs.Stands.{moved-rows-stand}
use Rattle.crash_views.proofs.moved_rows_stand.Goals as goal

pub returns : goal.returns
returns c = moved-rows-stand
