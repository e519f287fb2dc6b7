use Rattle.std.specs.Prelude.{◌≡◌, true, ⊤}
use Rattle.reshape_progress_resync_laws.proofs.Windows.{resyncs-begin}
use Rattle.reshape_progress_resync_laws.proofs.laws.resyncs_begin.Goals as goal

pub returns : goal.returns
returns c = λ among. resyncs-begin ⊤ (λ shape. among shape ≡ true)
