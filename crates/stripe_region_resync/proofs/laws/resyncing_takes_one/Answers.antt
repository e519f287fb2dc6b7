use Rattle.stripe_region_resync.proofs.LeftLaws.{mending-takes-one}
use Rattle.stripe_region_resync.proofs.laws.resyncing_takes_one.Goals as goal

pub returns : goal.returns
returns c = mending-takes-one
