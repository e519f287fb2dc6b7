use Rattle.std.specs.Prelude.{⊤}
use Rattle.crash_safety_laws.proofs.CalledLaws.{update-is-change}
use Rattle.crash_safety_laws.proofs.an_update_is_a_change.Goals as goal

pub returns : goal.returns
returns c = update-is-change ⊤
