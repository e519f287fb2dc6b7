use Rattle.stripe_region_resync.proofs.StripeRows.{mends-are-listed}
use Rattle.stripe_region_resync.proofs.laws.resyncs_are_listed.Goals as goal

pub returns : goal.returns
returns c = mends-are-listed
