use Rattle.std.specs.Prelude.{⊤}
use Rattle.stripe_delayed_store.proofs.StoredLaws.{delayed-safe}
use Rattle.stripe_delayed_store.proofs.laws.delayed_writes_stay_safe.Goals as goal

pub returns : goal.returns
returns c = delayed-safe ⊤
