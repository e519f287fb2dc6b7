use Rattle.run_specs.proofs.RuledLaws.{plans-arrived}
use Rattle.run_specs.proofs.laws.plans_arrive.Goals as goal

pub returns : goal.returns
returns c = plans-arrived
