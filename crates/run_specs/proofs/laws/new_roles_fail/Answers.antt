use Rattle.run_specs.proofs.RuledLaws.{new-roles}
use Rattle.run_specs.proofs.laws.new_roles_fail.Goals as goal

pub returns : goal.returns
returns c = new-roles
