use Rattle.std.specs.Prelude.{◌≡◌, true, ⊤}
use Rattle.reshape_progress_resync_laws.proofs.Mended.{none-pending}
use Rattle.reshape_progress_resync_laws.proofs.laws.none_is_pending.Goals as goal

pub returns : goal.returns
returns c = λ among. none-pending ⊤ (λ shape. among shape ≡ true)
