use Rattle.crash_views.proofs.WindowLaws.{region-rows}
use Rattle.crash_views.proofs.region_rows_are_one.Goals as goal

pub returns : goal.returns
returns c = region-rows
