use Rattle.stripe_region_resync.proofs.ReliedLaws.{relied-grows}
use Rattle.stripe_region_resync.proofs.laws.relied_grows.Goals as goal

pub returns : goal.returns
returns c = relied-grows
