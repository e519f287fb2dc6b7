use Rattle.std.specs.Prelude.{⊤}
use Rattle.crash_reshape_laws.proofs.CopyRuns.{copies-fit}
use Rattle.crash_reshape_laws.proofs.copies_stay_fit.Goals as goal

pub returns : goal.returns
returns c = copies-fit ⊤
