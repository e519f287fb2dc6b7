use Rattle.std.specs.Prelude.{⊤}
use Rattle.crash_role_laws.proofs.GivenSafe.{giving-stays-safe}
use Rattle.crash_role_laws.proofs.giving_stays_safe.Goals as goal

pub returns : goal.returns
returns c = giving-stays-safe ⊤
