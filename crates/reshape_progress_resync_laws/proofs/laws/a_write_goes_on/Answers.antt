use Rattle.std.specs.Prelude.{◌≡◌, true, ⊤}
use Rattle.reshape_progress_resync_laws.proofs.Mended.{mended-writes-go-on}
use Rattle.reshape_progress_resync_laws.proofs.laws.a_write_goes_on.Goals as goal

pub returns : goal.returns
returns c = λ among. mended-writes-go-on ⊤ (λ shape. among shape ≡ true)
