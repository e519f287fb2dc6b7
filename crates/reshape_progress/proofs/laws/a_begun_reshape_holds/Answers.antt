use Rattle.std.specs.Prelude.{◌≡◌, true, ⊤}
use Rattle.reshape_progress.proofs.Courses.{begins-stand}
use Rattle.reshape_progress.proofs.laws.a_begun_reshape_holds.Goals as goal

pub returns : goal.returns
returns c = λ among. begins-stand ⊤ (λ shape. among shape ≡ true)
