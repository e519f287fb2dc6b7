use Rattle.stripe_delayed_rows.proofs.OverlayLaws.{evicting}
use Rattle.stripe_delayed_rows.proofs.evicted_is_delayed.Goals as goal

pub returns : goal.returns
returns c = evicting
