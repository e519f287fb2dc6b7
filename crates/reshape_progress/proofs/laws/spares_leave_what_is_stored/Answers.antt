use Rattle.reshape_progress.proofs.Spares.{spares-stored}
use Rattle.reshape_progress.proofs.laws.spares_leave_what_is_stored.Goals as goal

pub returns : goal.returns
returns c = spares-stored
