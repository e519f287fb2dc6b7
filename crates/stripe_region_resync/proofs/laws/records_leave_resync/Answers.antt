use Rattle.stripe_region_resync.proofs.LeftLaws.{records-leave}
use Rattle.stripe_region_resync.proofs.laws.records_leave_resync.Goals as goal

pub returns : goal.returns
returns c = records-leave
