use Rattle.std.specs.Prelude.{◌≡◌, true, ⊤}
use Rattle.reshape_progress.proofs.Courses.{courses-copied}
use Rattle.reshape_progress.proofs.laws.progress_is_copied.Goals as goal

pub returns : goal.returns
returns c = λ among. courses-copied ⊤ (λ shape. among shape ≡ true)
