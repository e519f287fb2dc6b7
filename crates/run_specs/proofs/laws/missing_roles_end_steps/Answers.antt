use Rattle.run_specs.proofs.RuledLaws.{gone-ends}
use Rattle.run_specs.proofs.laws.missing_roles_end_steps.Goals as goal

pub returns : goal.returns
returns c = gone-ends
