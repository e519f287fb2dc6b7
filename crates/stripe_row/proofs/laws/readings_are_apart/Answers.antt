use Rattle.stripe_row.proofs.Apart.{readings-are-apart}
use Rattle.stripe_row.proofs.laws.readings_are_apart.Goals as goal

pub returns : goal.returns
returns c = readings-are-apart
