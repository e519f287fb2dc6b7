use Rattle.history_laws.proofs.OneShapeGrowing.{one_shape-grow}
use Rattle.history_laws.proofs.one_shape_histories_grow.Goals as goal

pub returns : goal.returns
returns c = one_shape-grow
