use Rattle.history_laws.proofs.ReshapedLaws.{reshapes-stay-right}
use Rattle.history_laws.proofs.reshapes_stay_right.Goals as goal

pub returns : goal.returns
returns c = reshapes-stay-right
