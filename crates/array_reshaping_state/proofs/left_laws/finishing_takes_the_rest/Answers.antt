use Rattle.array_reshaping_state.proofs.LeftLaws.{finishing-rest}
use Rattle.array_reshaping_state.proofs.left_laws.finishing_takes_the_rest.Goals as goal

pub returns : goal.returns
returns c = finishing-rest
