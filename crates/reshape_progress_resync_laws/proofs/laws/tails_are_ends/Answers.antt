use Rattle.reshape_progress_resync_laws.proofs.Ends.{tails-are-ends}
use Rattle.reshape_progress_resync_laws.proofs.laws.tails_are_ends.Goals as goal

pub returns : goal.returns
returns c = tails-are-ends
