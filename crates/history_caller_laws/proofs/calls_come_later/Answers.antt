use Rattle.history_caller_laws.proofs.BeforeLaws.{calls-later}
use Rattle.history_caller_laws.proofs.calls_come_later.Goals as goal

pub returns : goal.returns
returns c = calls-later
