use Rattle.std.specs.Prelude.{◌≡◌, true, ⊤}
use Rattle.reshape_progress_resync_laws.proofs.Windows.{mended-copies-go-on}
use Rattle.reshape_progress_resync_laws.proofs.laws.a_copy_goes_on.Goals as goal

pub returns : goal.returns
returns c = λ among. mended-copies-go-on ⊤ (λ shape. among shape ≡ true)
