use Rattle.history_reopen_laws.proofs.Settled.{settled-found-later}
use Rattle.history_reopen_laws.proofs.laws.settled_lists_are_found_later.Goals as goal

pub returns : goal.returns
returns c = settled-found-later
