use Rattle.reshape_request.proofs.LeftLaws.{ending}
use Rattle.reshape_request.proofs.left_laws.ending_takes_one.Goals as goal

pub returns : goal.returns
returns c = ending
