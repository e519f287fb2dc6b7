use Rattle.reshape_geometry.proofs.Rows.{writes_apart}
use Rattle.reshape_geometry.proofs.laws.writes_are_apart.Goals as goal

pub returns : goal.returns
returns c = writes_apart
