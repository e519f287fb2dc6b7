use Rattle.array_reshaping_state.proofs.LeftLaws.{plans-counted}
use Rattle.array_reshaping_state.proofs.left_laws.plans_are_counted.Goals as goal

pub returns : goal.returns
returns c = plans-counted
