use Rattle.crash_reshape_laws.proofs.TakenShapes.{taken-alike}
use Rattle.crash_reshape_laws.proofs.taken_shapes_place_alike.Goals as goal

pub returns : goal.returns
returns c = taken-alike
