use Rattle.std.specs.Prelude.{⊤}
use Rattle.crash_safety_laws.proofs.LessViews.{less-right}
use Rattle.crash_safety_laws.proofs.less_stays_right.Goals as goal

pub returns : goal.returns
returns c = less-right ⊤
