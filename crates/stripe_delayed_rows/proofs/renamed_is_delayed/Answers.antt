use Rattle.stripe_delayed_rows.proofs.OverlayLaws.{renaming}
use Rattle.stripe_delayed_rows.proofs.renamed_is_delayed.Goals as goal

pub returns : goal.returns
returns c = renaming
