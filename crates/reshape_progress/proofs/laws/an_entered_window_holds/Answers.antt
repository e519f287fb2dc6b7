use Rattle.std.specs.Prelude.{◌≡◌, true, ⊤}
use Rattle.reshape_progress.proofs.Courses.{enters-stand}
use Rattle.reshape_progress.proofs.laws.an_entered_window_holds.Goals as goal

pub returns : goal.returns
returns c = λ among. enters-stand ⊤ (λ shape. among shape ≡ true)
