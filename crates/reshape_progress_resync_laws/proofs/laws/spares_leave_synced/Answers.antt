use Rattle.std.specs.Prelude.{◌≡◌, true, ⊤}
use Rattle.reshape_progress_resync_laws.proofs.Spares.{spares-leave-mended}
use Rattle.reshape_progress_resync_laws.proofs.laws.spares_leave_synced.Goals as goal

pub returns : goal.returns
returns c = λ among. spares-leave-mended ⊤ (λ shape. among shape ≡ true)
