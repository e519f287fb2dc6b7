use Rattle.history.proofs.OneShapeLegal.{one_shape-legal}
use Rattle.history.proofs.laws.one_shape_histories_are_legal.Goals as goal

pub returns : goal.returns
returns c = one_shape-legal
