use Rattle.history_laws.proofs.NumberLaws.{safe-throughout}
use Rattle.history_laws.proofs.safe_throughout_suffices.Goals as goal

pub returns : goal.returns
returns c = safe-throughout
