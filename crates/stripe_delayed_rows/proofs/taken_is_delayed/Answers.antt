use Rattle.stripe_delayed_rows.proofs.OverlayLaws.{taking}
use Rattle.stripe_delayed_rows.proofs.taken_is_delayed.Goals as goal

pub returns : goal.returns
returns c = taking
