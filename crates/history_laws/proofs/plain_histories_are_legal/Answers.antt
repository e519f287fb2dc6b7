use Rattle.history_laws.proofs.PlainLegal.{plain-legal}
use Rattle.history_laws.proofs.plain_histories_are_legal.Goals as goal

pub returns : goal.returns
returns c = plain-legal
