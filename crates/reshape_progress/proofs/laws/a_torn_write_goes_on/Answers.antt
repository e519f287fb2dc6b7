use Rattle.std.specs.Prelude.{◌≡◌, true, ⊤}
use Rattle.reshape_progress.proofs.Writes.{torn-writes-go-on}
use Rattle.reshape_progress.proofs.laws.a_torn_write_goes_on.Goals as goal

pub returns : goal.returns
returns c = λ among. torn-writes-go-on ⊤ (λ shape. among shape ≡ true)
