use Rattle.std.specs.Prelude.{⊤}
use Rattle.crash_views.proofs.WindowLaws.{copying-right}
use Rattle.crash_views.proofs.a_copied_window_stays_right.Goals as goal

pub returns : goal.returns
returns c = copying-right ⊤
