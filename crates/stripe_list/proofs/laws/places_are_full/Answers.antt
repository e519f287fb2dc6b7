use Rattle.stripe_list.proofs.FullLaws.{places-are-full}
use Rattle.stripe_list.proofs.laws.places_are_full.Goals as goal

pub returns : goal.returns
returns c = places-are-full
