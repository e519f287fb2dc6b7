use Rattle.stripe_region_resync.proofs.StripeLaws.{mends-go-on}
use Rattle.stripe_region_resync.proofs.laws.resyncs_go_on.Goals as goal

pub returns : goal.returns
returns c = mends-go-on
