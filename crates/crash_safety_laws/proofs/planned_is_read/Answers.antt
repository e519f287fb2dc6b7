use Rattle.crash_safety_laws.proofs.UpdateViews.{planned-is-read}
use Rattle.crash_safety_laws.proofs.planned_is_read.Goals as goal

pub returns : goal.returns
returns c = planned-is-read
