use Rattle.std.specs.Prelude.{◌≡◌, true, ⊤}
use Rattle.reshape_progress_resync_laws.proofs.Torn.{mended-torn-writes-go-on}
use Rattle.reshape_progress_resync_laws.proofs.laws.a_torn_write_goes_on.Goals as goal

pub returns : goal.returns
returns c = λ among. mended-torn-writes-go-on ⊤ (λ shape. among shape ≡ true)
