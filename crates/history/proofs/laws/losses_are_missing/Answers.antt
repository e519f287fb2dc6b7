use Rattle.history.proofs.OneShapeGone.{losses-gone}
use Rattle.history.proofs.laws.losses_are_missing.Goals as goal

pub returns : goal.returns
returns c = losses-gone
