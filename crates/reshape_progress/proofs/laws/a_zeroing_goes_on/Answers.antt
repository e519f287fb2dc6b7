use Rattle.std.specs.Prelude.{◌≡◌, true, ⊤}
use Rattle.reshape_progress.proofs.Courses.{zeroes-go-on}
use Rattle.reshape_progress.proofs.laws.a_zeroing_goes_on.Goals as goal

pub returns : goal.returns
returns c = λ among. zeroes-go-on ⊤ (λ shape. among shape ≡ true)
