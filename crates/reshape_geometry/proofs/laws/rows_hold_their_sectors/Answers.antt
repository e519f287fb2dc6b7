use Rattle.reshape_geometry.proofs.Rows.{rows_hold}
use Rattle.reshape_geometry.proofs.laws.rows_hold_their_sectors.Goals as goal

pub returns : goal.returns
returns c = rows_hold
