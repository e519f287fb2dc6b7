use Rattle.std.specs.Prelude.{⊤}
use Rattle.crash_reshape_laws.proofs.EndLaws.{alike-plans}
use Rattle.crash_reshape_laws.proofs.alike_plans_are_right.Goals as goal

pub returns : goal.returns
returns c = alike-plans ⊤
