use Rattle.history_caller_laws.proofs.BeforeLaws.{shorter-before}
use Rattle.history_caller_laws.proofs.shorter_is_before.Goals as goal

pub returns : goal.returns
returns c = shorter-before
