use Rattle.stripe_region_resync.proofs.LeftLaws.{mends-counted}
use Rattle.stripe_region_resync.proofs.laws.resyncs_are_counted.Goals as goal

pub returns : goal.returns
returns c = mends-counted
