use Rattle.reshape_geometry.proofs.GoingOn.{keeps_the_unit}
use Rattle.reshape_geometry.proofs.laws.windows_keep_the_unit.Goals as goal

pub returns : goal.returns
returns c = keeps_the_unit
