use Rattle.run_specs.proofs.RuledLaws.{plans-stepped}
use Rattle.run_specs.proofs.laws.plans_are_stepped.Goals as goal

pub returns : goal.returns
returns c = plans-stepped
