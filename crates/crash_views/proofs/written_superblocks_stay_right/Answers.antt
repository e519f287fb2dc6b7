use Rattle.std.specs.Prelude.{⊤}
use Rattle.crash_views.proofs.WindowLaws.{updating-right}
use Rattle.crash_views.proofs.written_superblocks_stay_right.Goals as goal

pub returns : goal.returns
returns c = updating-right ⊤
