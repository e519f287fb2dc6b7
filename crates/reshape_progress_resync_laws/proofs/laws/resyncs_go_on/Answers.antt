use Rattle.std.specs.Prelude.{◌≡◌, true, ⊤}
use Rattle.reshape_progress_resync_laws.proofs.Mended.{mends-go-on}
use Rattle.reshape_progress_resync_laws.proofs.laws.resyncs_go_on.Goals as goal

pub returns : goal.returns
returns c = λ among. mends-go-on ⊤ (λ shape. among shape ≡ true)
