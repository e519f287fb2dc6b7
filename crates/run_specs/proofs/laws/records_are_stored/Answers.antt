use Rattle.run_specs.proofs.RuledLaws.{records-stored}
use Rattle.run_specs.proofs.laws.records_are_stored.Goals as goal

pub returns : goal.returns
returns c = records-stored
