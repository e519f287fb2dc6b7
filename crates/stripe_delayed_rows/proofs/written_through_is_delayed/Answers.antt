use Rattle.stripe_delayed_rows.proofs.OverlayLaws.{through}
use Rattle.stripe_delayed_rows.proofs.written_through_is_delayed.Goals as goal

pub returns : goal.returns
returns c = through
