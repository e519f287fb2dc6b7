use Rattle.stripe_delayed_rows.proofs.OverlayLaws.{using}
use Rattle.stripe_delayed_rows.proofs.used_is_delayed.Goals as goal

pub returns : goal.returns
returns c = using
