use Rattle.stripe_write_back.proofs.KeepingLaws.{kept-stay, evicted-written, written-through}
use Rattle.stripe_write_back.proofs.laws.rows_are_kept.Goals as goal

pub returns-clause-stay : goal.returns-clause-stay
returns-clause-stay c = kept-stay

pub returns-clause-evicted : goal.returns-clause-evicted
returns-clause-evicted c = evicted-written

pub returns-clause-through : goal.returns-clause-through
returns-clause-through c = written-through
