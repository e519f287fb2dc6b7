use Rattle.history_reopen_laws.proofs.FewerSound.{sound-found-later}
use Rattle.history_reopen_laws.proofs.laws.sound_arrays_are_found_later.Goals as goal

pub returns : goal.returns
returns c = sound-found-later
