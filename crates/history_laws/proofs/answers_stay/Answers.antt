use Rattle.history_laws.proofs.SeenLaws.{answers-stay}
use Rattle.history_laws.proofs.answers_stay.Goals as goal

pub returns : goal.returns
returns c = answers-stay
