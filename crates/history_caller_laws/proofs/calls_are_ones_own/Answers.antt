use Rattle.history_caller_laws.proofs.PlaceLaws.{calls-own}
use Rattle.history_caller_laws.proofs.calls_are_ones_own.Goals as goal

pub returns : goal.returns
returns c = calls-own
