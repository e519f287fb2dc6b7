use Rattle.stripe_delayed_rows.proofs.OverlayLaws.{keeping}
use Rattle.stripe_delayed_rows.proofs.kept_is_delayed.Goals as goal

pub returns : goal.returns
returns c = keeping
