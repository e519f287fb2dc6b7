use Rattle.run_specs.proofs.PlainReplies.{plain-replies}
use Rattle.run_specs.proofs.laws.plain_replies_fit.Goals as goal

pub returns : goal.returns
returns c = plain-replies
