use Rattle.std.specs.Prelude.{⊤}
use Rattle.crash_views.proofs.WindowLaws.{fewer-right}
use Rattle.crash_views.proofs.fewer_values_stay_right.Goals as goal

pub returns : goal.returns
returns c = fewer-right ⊤
