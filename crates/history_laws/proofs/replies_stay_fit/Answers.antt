use Rattle.history_laws.proofs.ReshapedLaws.{replies-stay-fit}
use Rattle.history_laws.proofs.replies_stay_fit.Goals as goal

pub returns : goal.returns
returns c = replies-stay-fit
