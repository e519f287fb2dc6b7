use Rattle.history_caller_laws.proofs.PlaceLaws.{calls-counted}
use Rattle.history_caller_laws.proofs.calls_are_counted.Goals as goal

pub returns : goal.returns
returns c = calls-counted
