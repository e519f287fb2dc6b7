use Rattle.std.specs.Prelude.{⊤}
use Rattle.reshape_progress.proofs.Frames.{stands-whole}
use Rattle.reshape_progress.proofs.laws.progress_holds_whole.Goals as goal

pub returns : goal.returns
returns c = stands-whole ⊤
