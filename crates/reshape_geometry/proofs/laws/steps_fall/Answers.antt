use Rattle.reshape_geometry.proofs.GoingOn.{steps_fall}
use Rattle.reshape_geometry.proofs.laws.steps_fall.Goals as goal

pub returns : goal.returns
returns c = steps_fall
