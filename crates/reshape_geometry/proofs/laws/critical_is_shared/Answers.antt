use Rattle.reshape_geometry.proofs.Rows.{critical_shared}
use Rattle.reshape_geometry.proofs.laws.critical_is_shared.Goals as goal

pub returns : goal.returns
returns c = critical_shared
