use Rattle.history_whole_laws.proofs.Whole.{none-gone}
use Rattle.history_whole_laws.proofs.laws.no_role_is_gone.Goals as goal

pub returns : goal.returns
returns c = none-gone
