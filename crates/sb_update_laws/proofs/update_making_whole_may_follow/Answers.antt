use Rattle.sb_update_laws.proofs.Laws.{making-follows}
use Rattle.sb_update_laws.proofs.update_making_whole_may_follow.Goals as goal

pub returns : goal.returns
returns c = making-follows
