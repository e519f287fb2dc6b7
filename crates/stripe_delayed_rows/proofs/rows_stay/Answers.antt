use Rattle.stripe_delayed_rows.proofs.OverlayLaws.{few, sides-stay}
use Rattle.stripe_delayed_rows.proofs.rows_stay.Goals as goal

pub returns-clause-few : goal.returns-clause-few
returns-clause-few c = few

pub returns-clause-sides : goal.returns-clause-sides
returns-clause-sides c = sides-stay
