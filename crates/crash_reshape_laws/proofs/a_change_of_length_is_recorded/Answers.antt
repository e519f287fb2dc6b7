use Rattle.crash_reshape_laws.proofs.GrownStanding.{resized-told}
use Rattle.crash_reshape_laws.proofs.a_change_of_length_is_recorded.Goals as goal

pub returns : goal.returns
returns c = resized-told
