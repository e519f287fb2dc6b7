use Rattle.std.specs.Prelude.{⊤}
use Rattle.crash_safety_laws.proofs.KeptSafe.{mark-safe}
use Rattle.crash_safety_laws.proofs.a_point_stays_safe.Goals as goal

pub returns : goal.returns
returns c = mark-safe ⊤
