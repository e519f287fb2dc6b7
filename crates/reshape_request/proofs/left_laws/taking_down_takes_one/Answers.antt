use Rattle.reshape_request.proofs.LeftLaws.{taking-down}
use Rattle.reshape_request.proofs.left_laws.taking_down_takes_one.Goals as goal

pub returns : goal.returns
returns c = taking-down
