use Rattle.array_reshaping_state.proofs.LeftLaws.{copying-one}
use Rattle.array_reshaping_state.proofs.left_laws.copying_takes_one.Goals as goal

pub returns : goal.returns
returns c = copying-one
