use Rattle.run_specs.proofs.RuledLaws.{kept-spares}
use Rattle.run_specs.proofs.laws.spares_stay.Goals as goal

pub returns : goal.returns
returns c = kept-spares
