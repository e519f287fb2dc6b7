use Rattle.reshape_request.proofs.LeftLaws.{zeroing}
use Rattle.reshape_request.proofs.left_laws.zeroing_takes_one.Goals as goal

pub returns : goal.returns
returns c = zeroing
