use Rattle.std.specs.Prelude.{⊤}
use Rattle.crash_reshape_laws.proofs.CopyRuns.{updated-fits-too}
use Rattle.crash_reshape_laws.proofs.updated_members_are_right_and_fit.Goals as goal

pub returns : goal.returns
returns c = updated-fits-too ⊤
