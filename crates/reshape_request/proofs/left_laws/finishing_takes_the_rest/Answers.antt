use Rattle.reshape_request.proofs.LeftLaws.{finishing}
use Rattle.reshape_request.proofs.left_laws.finishing_takes_the_rest.Goals as goal

pub returns : goal.returns
returns c = finishing
