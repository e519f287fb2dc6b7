use Rattle.history.proofs.VerdictLaws.{all-assemble}
use Rattle.history.proofs.laws.without_loss_all_assemble.Goals as goal

pub returns : goal.returns
returns c = all-assemble
