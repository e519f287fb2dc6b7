use Rattle.std.specs.Prelude.{◌≡◌, true, ⊤}
use Rattle.reshape_progress_resync_laws.proofs.Mended.{resyncs-end}
use Rattle.reshape_progress_resync_laws.proofs.laws.resyncs_end.Goals as goal

pub returns : goal.returns
returns c = λ among. resyncs-end ⊤ (λ shape. among shape ≡ true)
