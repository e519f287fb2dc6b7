use Rattle.std.specs.Prelude.{◌≡◌, true, ⊤}
use Rattle.reshape_progress_resync_laws.proofs.Mended.{mended-courses-move}
use Rattle.reshape_progress_resync_laws.proofs.laws.synced_progress_moves.Goals as goal

pub returns : goal.returns
returns c = λ among. mended-courses-move ⊤ (λ shape. among shape ≡ true)
