use Rattle.stripe_region_resync.proofs.ReliedLaws.{relied-reaches}
use Rattle.stripe_region_resync.proofs.laws.relied_reaches.Goals as goal

pub returns : goal.returns
returns c = relied-reaches
