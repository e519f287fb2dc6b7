use Rattle.std.specs.Prelude.{⊤}
use Rattle.reshape_window_steps.proofs.SteadyLaws.{clearing-steady}
use Rattle.reshape_window_steps.proofs.laws.cleared_headers_stay_steady.Goals as goal

pub returns : goal.returns
returns c = clearing-steady ⊤
