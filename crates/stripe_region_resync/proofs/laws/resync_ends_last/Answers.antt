use Rattle.stripe_region_resync.proofs.LeftLaws.{resync-ends-last}
use Rattle.stripe_region_resync.proofs.laws.resync_ends_last.Goals as goal

pub returns : goal.returns
returns c = resync-ends-last
