use Rattle.history.proofs.ReopenedLaws.{sound-found}
use Rattle.history.proofs.laws.sound_arrays_are_found.Goals as goal

pub returns : goal.returns
returns c = sound-found
