use Rattle.std.specs.Prelude.{◌≡◌, true, ⊤}
use Rattle.reshape_progress.proofs.Finishes.{rests-go-on}
use Rattle.reshape_progress.proofs.laws.a_rest_goes_on.Goals as goal

pub returns : goal.returns
returns c = λ among. rests-go-on ⊤ (λ shape. among shape ≡ true)
