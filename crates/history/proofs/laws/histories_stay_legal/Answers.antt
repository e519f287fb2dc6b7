use Rattle.history.proofs.LegalLaws.{histories-stay-legal}
use Rattle.history.proofs.laws.histories_stay_legal.Goals as goal

pub returns : goal.returns
returns c = histories-stay-legal
