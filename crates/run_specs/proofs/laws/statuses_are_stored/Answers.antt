use Rattle.run_specs.proofs.RuledLaws.{shown-stored}
use Rattle.run_specs.proofs.laws.statuses_are_stored.Goals as goal

pub returns : goal.returns
returns c = shown-stored
