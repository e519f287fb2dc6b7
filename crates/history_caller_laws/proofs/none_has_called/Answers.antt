use Rattle.history_caller_laws.proofs.PlaceLaws.{none-has_called}
use Rattle.history_caller_laws.proofs.none_has_called.Goals as goal

pub returns : goal.returns
returns c = none-has_called
