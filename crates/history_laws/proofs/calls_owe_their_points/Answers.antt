use Rattle.history_laws.proofs.GrowingLaws.{calls-owe}
use Rattle.history_laws.proofs.calls_owe_their_points.Goals as goal

pub returns : goal.returns
returns c = calls-owe
