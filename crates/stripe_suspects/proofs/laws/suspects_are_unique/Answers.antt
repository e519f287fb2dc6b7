use Rattle.stripe_suspects.proofs.Unique.{suspects-are-unique}
use Rattle.stripe_suspects.proofs.laws.suspects_are_unique.Goals as goal

pub returns : goal.returns
returns c = suspects-are-unique
