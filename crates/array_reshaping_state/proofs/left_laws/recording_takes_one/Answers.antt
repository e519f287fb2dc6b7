use Rattle.array_reshaping_state.proofs.LeftLaws.{recording-one}
use Rattle.array_reshaping_state.proofs.left_laws.recording_takes_one.Goals as goal

pub returns : goal.returns
returns c = recording-one
