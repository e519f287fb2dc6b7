use Rattle.sb_update_laws.proofs.Laws.{turning-ends}
use Rattle.sb_update_laws.proofs.update_transition_ends.Goals as goal

pub returns : goal.returns
returns c = turning-ends
