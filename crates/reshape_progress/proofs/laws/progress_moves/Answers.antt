use Rattle.std.specs.Prelude.{◌≡◌, true, ⊤}
use Rattle.reshape_progress.proofs.Courses.{courses-move}
use Rattle.reshape_progress.proofs.laws.progress_moves.Goals as goal

pub returns : goal.returns
returns c = λ among. courses-move ⊤ (λ shape. among shape ≡ true)
