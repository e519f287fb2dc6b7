use Rattle.sb_update_laws.proofs.Laws.{making-ends}
use Rattle.sb_update_laws.proofs.update_making_whole_ends.Goals as goal

pub returns : goal.returns
returns c = making-ends
