use Rattle.run_specs.proofs.PlainReplies.{lists-stay}
use Rattle.run_specs.proofs.laws.plain_lists_stay.Goals as goal

pub returns : goal.returns
returns c = lists-stay
