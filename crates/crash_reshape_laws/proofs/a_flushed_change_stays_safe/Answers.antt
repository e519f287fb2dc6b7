use Rattle.std.specs.Prelude.{⊤}
use Rattle.crash_reshape_laws.proofs.Begin.{flushed-change-safe}
use Rattle.crash_reshape_laws.proofs.a_flushed_change_stays_safe.Goals as goal

pub returns : goal.returns
returns c = flushed-change-safe ⊤
