use Rattle.reshape_request.proofs.LeftLaws.{beginning}
use Rattle.reshape_request.proofs.left_laws.beginning_takes_one.Goals as goal

pub returns : goal.returns
returns c = beginning
