use Rattle.sb_update_laws.proofs.Laws.{turning-follows}
use Rattle.sb_update_laws.proofs.update_transition_may_follow.Goals as goal

pub returns : goal.returns
returns c = turning-follows
