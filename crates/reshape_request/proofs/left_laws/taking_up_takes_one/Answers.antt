use Rattle.reshape_request.proofs.LeftLaws.{taking-up}
use Rattle.reshape_request.proofs.left_laws.taking_up_takes_one.Goals as goal

pub returns : goal.returns
returns c = taking-up
