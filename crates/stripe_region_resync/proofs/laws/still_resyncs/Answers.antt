use Rattle.stripe_region_resync.proofs.ReliedLaws.{still-mends}
use Rattle.stripe_region_resync.proofs.laws.still_resyncs.Goals as goal

pub returns : goal.returns
returns c = still-mends
