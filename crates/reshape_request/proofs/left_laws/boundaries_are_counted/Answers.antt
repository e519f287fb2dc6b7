use Rattle.reshape_request.proofs.LeftLaws.{boundaries}
use Rattle.reshape_request.proofs.left_laws.boundaries_are_counted.Goals as goal

pub returns : goal.returns
returns c = boundaries
