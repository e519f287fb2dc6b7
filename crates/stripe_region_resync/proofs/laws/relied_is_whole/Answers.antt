use Rattle.stripe_region_resync.proofs.ReliedLaws.{relied-is-whole}
use Rattle.stripe_region_resync.proofs.laws.relied_is_whole.Goals as goal

pub returns : goal.returns
returns c = relied-is-whole
