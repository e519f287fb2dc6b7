use Rattle.reshape_request.proofs.LeftLaws.{recording}
use Rattle.reshape_request.proofs.left_laws.recording_takes_one.Goals as goal

pub returns : goal.returns
returns c = recording
