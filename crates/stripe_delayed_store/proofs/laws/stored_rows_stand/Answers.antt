use Rattle.stripe_delayed_store.proofs.StoredLaws.{stored-stand}
use Rattle.stripe_delayed_store.proofs.laws.stored_rows_stand.Goals as goal

pub returns : goal.returns
returns c = stored-stand
