use Rattle.std.specs.Prelude.{⊤}
use Rattle.reshape_progress.proofs.Under.{courses-stand-under}
use Rattle.reshape_progress.proofs.laws.progress_holds_under_each_header.Goals as goal

pub returns : goal.returns
returns c = courses-stand-under ⊤
