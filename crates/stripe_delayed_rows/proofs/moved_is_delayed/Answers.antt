use Rattle.stripe_delayed_rows.proofs.OverlayLaws.{moving, not-of-new}
use Rattle.stripe_delayed_rows.proofs.moved_is_delayed.Goals as goal

pub returns-clause-moved : goal.returns-clause-moved
returns-clause-moved c = moving

pub returns-clause-none : goal.returns-clause-none
returns-clause-none c = not-of-new
