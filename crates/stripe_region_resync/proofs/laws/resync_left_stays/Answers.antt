use Rattle.stripe_region_resync.proofs.LeftLaws.{left-stays}
use Rattle.stripe_region_resync.proofs.laws.resync_left_stays.Goals as goal

pub returns : goal.returns
returns c = left-stays
