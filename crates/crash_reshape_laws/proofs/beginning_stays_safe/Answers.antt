use Rattle.std.specs.Prelude.{⊤}
use Rattle.crash_reshape_laws.proofs.Begin.{begin-safe}
use Rattle.crash_reshape_laws.proofs.beginning_stays_safe.Goals as goal

pub returns : goal.returns
returns c = begin-safe ⊤
