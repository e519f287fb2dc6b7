use Rattle.stripe_list.proofs.FullLaws.{standing-is-full}
use Rattle.stripe_list.proofs.laws.standing_is_full.Goals as goal

pub returns : goal.returns
returns c = standing-is-full
