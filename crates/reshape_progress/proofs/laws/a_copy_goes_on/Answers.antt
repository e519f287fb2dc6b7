use Rattle.std.specs.Prelude.{◌≡◌, true, ⊤}
use Rattle.reshape_progress.proofs.Courses.{copies-go-on}
use Rattle.reshape_progress.proofs.laws.a_copy_goes_on.Goals as goal

pub returns : goal.returns
returns c = λ among. copies-go-on ⊤ (λ shape. among shape ≡ true)
