use Rattle.history_caller_laws.proofs.BeforeLaws.{seen-on}
use Rattle.history_caller_laws.proofs.seen_goes_on.Goals as goal

pub returns : goal.returns
returns c = seen-on
