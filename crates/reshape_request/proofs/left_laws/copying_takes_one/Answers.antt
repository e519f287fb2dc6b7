use Rattle.reshape_request.proofs.LeftLaws.{copying}
use Rattle.reshape_request.proofs.left_laws.copying_takes_one.Goals as goal

pub returns : goal.returns
returns c = copying
