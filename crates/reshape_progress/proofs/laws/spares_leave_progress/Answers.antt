use Rattle.std.specs.Prelude.{◌≡◌, true, ⊤}
use Rattle.reshape_progress.proofs.Spares.{spares-leave}
use Rattle.reshape_progress.proofs.laws.spares_leave_progress.Goals as goal

pub returns : goal.returns
returns c = λ among. spares-leave ⊤ (λ shape. among shape ≡ true)
