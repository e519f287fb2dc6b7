use Rattle.history_laws.proofs.GrowingLaws.{marks-stay-safe}
use Rattle.history_laws.proofs.points_stay_safe.Goals as goal

pub returns : goal.returns
returns c = marks-stay-safe
