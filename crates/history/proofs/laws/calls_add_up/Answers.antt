use Rattle.history.proofs.LegalLaws.{calls-add-up}
use Rattle.history.proofs.laws.calls_add_up.Goals as goal

pub returns : goal.returns
returns c = calls-add-up
