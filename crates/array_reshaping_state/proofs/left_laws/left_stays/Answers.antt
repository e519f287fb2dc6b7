use Rattle.array_reshaping_state.proofs.LeftLaws.{left-stays}
use Rattle.array_reshaping_state.proofs.left_laws.left_stays.Goals as goal

pub returns : goal.returns
returns c = left-stays
