use Rattle.stripe_delayed_rows.proofs.OverlayLaws.{of-list, leaves-held, takes-held}
use Rattle.stripe_delayed_rows.proofs.rows_are_of_the_list.Goals as goal

pub returns-clause-list : goal.returns-clause-list
returns-clause-list c = of-list

pub returns-clause-leaving : goal.returns-clause-leaving
returns-clause-leaving c = leaves-held

pub returns-clause-taken : goal.returns-clause-taken
returns-clause-taken c = takes-held
