use Rattle.history_laws.proofs.ReshapedLaws.{reshapes-add-up}
use Rattle.history_laws.proofs.reshapes_add_up.Goals as goal

pub returns : goal.returns
returns c = reshapes-add-up
