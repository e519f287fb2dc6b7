use Rattle.array_reshaping_state.proofs.LeftLaws.{entering-one}
use Rattle.array_reshaping_state.proofs.left_laws.entering_takes_one.Goals as goal

pub returns : goal.returns
returns c = entering-one
