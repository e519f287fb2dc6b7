use Rattle.std.specs.Prelude.{⊤}
use Rattle.reshape_progress.proofs.Finishes.{finishes-close}
use Rattle.reshape_progress.proofs.laws.a_finish_closes.Goals as goal

pub returns : goal.returns
returns c = finishes-close ⊤
