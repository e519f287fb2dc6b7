use Rattle.std.specs.Prelude.{⊤}
use Rattle.reshape_progress.proofs.Courses.{zeroes-are-all}
use Rattle.reshape_progress.proofs.laws.all_is_zeroed.Goals as goal

pub returns : goal.returns
returns c = zeroes-are-all ⊤
