use Rattle.std.specs.Prelude.{⊤}
use Rattle.crash_safety_laws.proofs.Steady.{safe-is-seen, losing-stays-safe, flushes-stay-safe}
use Rattle.crash_safety_laws.proofs.WriteSafe.{writes-stay-safe}
use Rattle.crash_safety_laws.proofs.FillingSafe.{filling-stays-safe}
use Rattle.crash_safety_laws.proofs.safety_is_preserved.Goals as goal

pub returns-clause-seen : goal.returns-clause-seen
returns-clause-seen c = safe-is-seen ⊤

pub returns-clause-losing : goal.returns-clause-losing
returns-clause-losing c = losing-stays-safe ⊤

pub returns-clause-flushes : goal.returns-clause-flushes
returns-clause-flushes c = flushes-stay-safe ⊤

pub returns-clause-writes : goal.returns-clause-writes
returns-clause-writes c = writes-stay-safe ⊤

pub returns-clause-filling : goal.returns-clause-filling
returns-clause-filling c = filling-stays-safe ⊤
