use Rattle.stripe_list.proofs.FullLaws.{losing-keeps}
use Rattle.stripe_list.proofs.laws.losing_preserves.Goals as goal

pub returns : goal.returns
returns c = losing-keeps
