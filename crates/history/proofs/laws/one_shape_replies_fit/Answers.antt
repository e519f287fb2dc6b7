use Rattle.history.proofs.OneShapeReplies.{one_shape-fit}
use Rattle.history.proofs.laws.one_shape_replies_fit.Goals as goal

pub returns : goal.returns
returns c = one_shape-fit
