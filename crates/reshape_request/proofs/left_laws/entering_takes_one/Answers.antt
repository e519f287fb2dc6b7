use Rattle.reshape_request.proofs.LeftLaws.{entering}
use Rattle.reshape_request.proofs.left_laws.entering_takes_one.Goals as goal

pub returns : goal.returns
returns c = entering
