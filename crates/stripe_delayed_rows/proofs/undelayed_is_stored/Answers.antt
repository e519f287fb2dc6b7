use Rattle.stripe_delayed_rows.proofs.OverlayLaws.{undelayed, empty}
use Rattle.stripe_delayed_rows.proofs.undelayed_is_stored.Goals as goal

pub returns-clause-stored : goal.returns-clause-stored
returns-clause-stored c = undelayed

pub returns-clause-empty : goal.returns-clause-empty
returns-clause-empty c = empty
