use Rattle.array_reshaping_state.proofs.LeftLaws.{zeroing-one}
use Rattle.array_reshaping_state.proofs.left_laws.zeroing_takes_one.Goals as goal

pub returns : goal.returns
returns c = zeroing-one
