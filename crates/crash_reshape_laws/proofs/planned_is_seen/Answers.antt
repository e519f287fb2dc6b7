use Rattle.crash_reshape_laws.proofs.LessPlaced.{planned-seen}
use Rattle.crash_reshape_laws.proofs.planned_is_seen.Goals as goal

pub returns : goal.returns
returns c = planned-seen
