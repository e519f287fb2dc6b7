use Rattle.reshape_progress.proofs.Courses.{stored-moves}
use Rattle.reshape_progress.proofs.laws.a_stored_window_moves.Goals as goal

pub returns : goal.returns
returns c = stored-moves
