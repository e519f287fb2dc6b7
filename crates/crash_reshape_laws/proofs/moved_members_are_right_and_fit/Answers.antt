use Rattle.std.specs.Prelude.{⊤}
use Rattle.crash_reshape_laws.proofs.CopyRuns.{moved-fits-too}
use Rattle.crash_reshape_laws.proofs.moved_members_are_right_and_fit.Goals as goal

pub returns : goal.returns
returns c = moved-fits-too ⊤
