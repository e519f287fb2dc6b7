use Rattle.crash_reshape_laws.proofs.EndLaws.{resized-tells}
use Rattle.crash_reshape_laws.proofs.a_changed_length_is_recorded.Goals as goal

pub returns : goal.returns
returns c = resized-tells
