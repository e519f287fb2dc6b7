use Rattle.run_specs.proofs.RuledLaws.{healthy-stay}
use Rattle.run_specs.proofs.laws.healthy_roles_stay.Goals as goal

pub returns : goal.returns
returns c = healthy-stay
