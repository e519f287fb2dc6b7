use Rattle.crash_reshape_laws.proofs.LessPlaced.{less-placed}
use Rattle.crash_reshape_laws.proofs.less_is_placed.Goals as goal

pub returns : goal.returns
returns c = less-placed
