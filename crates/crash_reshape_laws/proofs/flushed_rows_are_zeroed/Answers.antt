use Rattle.crash_reshape_laws.proofs.LessPlaced.{flushed-zeroed}
use Rattle.crash_reshape_laws.proofs.flushed_rows_are_zeroed.Goals as goal

pub returns : goal.returns
returns c = flushed-zeroed
