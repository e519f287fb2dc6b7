use Rattle.run_specs.proofs.RuledLaws.{led-on}
use Rattle.run_specs.proofs.laws.blocks_lead_on.Goals as goal

pub returns : goal.returns
returns c = led-on
