use Rattle.std.specs.Prelude.{⊤}
use Rattle.crash_safety_laws.proofs.KeptSafe.{record-safe}
use Rattle.crash_safety_laws.proofs.a_record_stays_safe.Goals as goal

pub returns : goal.returns
returns c = record-safe ⊤
