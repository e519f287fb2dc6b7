use Rattle.history.proofs.SameLaws.{writes-elsewhere}
use Rattle.history.proofs.laws.writes_elsewhere_are_unseen.Goals as goal

pub returns : goal.returns
returns c = writes-elsewhere
