use Rattle.run_specs.proofs.RuledLaws.{told-steps}
use Rattle.run_specs.proofs.laws.recorded_steps_are_left.Goals as goal

pub returns : goal.returns
returns c = told-steps
