use Rattle.stripe_delayed_store.proofs.RowLaws.{can-be-written}
use Rattle.stripe_delayed_store.proofs.laws.stored_rows_can_be_written.Goals as goal

pub returns : goal.returns
returns c = can-be-written
