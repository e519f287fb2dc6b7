use Rattle.std.specs.Prelude.{⊤}
use Rattle.reshape_window_steps.proofs.SteadyLaws.{zeroing-steady, zeroing-safe}
use Rattle.reshape_window_steps.proofs.laws.zeroed_rows_stay_safe.Goals as goal

pub returns-clause-steady : goal.returns-clause-steady
returns-clause-steady c = zeroing-steady ⊤

pub returns-clause-safe : goal.returns-clause-safe
returns-clause-safe c = zeroing-safe ⊤
