use Rattle.std.specs.Prelude.{⊤}
use Rattle.reshape_window_steps.proofs.SteadyLaws.{sections-steady}
use Rattle.reshape_window_steps.proofs.laws.stored_and_named_sections_stay_steady.Goals as goal

pub returns : goal.returns
returns c = sections-steady ⊤
