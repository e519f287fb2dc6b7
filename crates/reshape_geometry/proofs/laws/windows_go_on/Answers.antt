use Rattle.reshape_geometry.proofs.GoingOn.{goes_on}
use Rattle.reshape_geometry.proofs.laws.windows_go_on.Goals as goal

pub returns : goal.returns
returns c = goes_on
