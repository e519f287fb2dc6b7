use Rattle.std.specs.Prelude.{⊤}
use Rattle.reshape_window_steps.proofs.SteadyLaws.{copying-steady, copying-safe}
use Rattle.reshape_window_steps.proofs.laws.a_copied_window_stays_safe.Goals as goal

pub returns-clause-steady : goal.returns-clause-steady
returns-clause-steady c = copying-steady ⊤

pub returns-clause-safe : goal.returns-clause-safe
returns-clause-safe c = copying-safe ⊤
