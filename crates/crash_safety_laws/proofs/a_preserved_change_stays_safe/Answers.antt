use Rattle.std.specs.Prelude.{⊤}
use Rattle.crash_safety_laws.proofs.KeptSafe.{kept-safe}
use Rattle.crash_safety_laws.proofs.a_preserved_change_stays_safe.Goals as goal

pub returns : goal.returns
returns c = kept-safe ⊤
