use Rattle.reshape_window_rows.proofs.Placed.{placed-have-rows}
use Rattle.reshape_window_rows.proofs.laws.placed_members_have_rows.Goals as goal

pub returns : goal.returns
returns c = placed-have-rows
