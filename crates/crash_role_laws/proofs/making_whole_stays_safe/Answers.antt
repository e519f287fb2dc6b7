use Rattle.std.specs.Prelude.{⊤}
use Rattle.crash_role_laws.proofs.MadeSafe.{making-safe}
use Rattle.crash_role_laws.proofs.making_whole_stays_safe.Goals as goal

pub returns : goal.returns
returns c = making-safe ⊤
