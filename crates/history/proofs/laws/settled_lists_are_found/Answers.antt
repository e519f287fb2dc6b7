use Rattle.history.proofs.ReopenedLaws.{settled-found}
use Rattle.history.proofs.laws.settled_lists_are_found.Goals as goal

pub returns : goal.returns
returns c = settled-found
