use Rattle.std.specs.Prelude.{⊤}
use Rattle.crash_safety_laws.proofs.ChangeSafe.{change-safe, spent-stays, safe-change}
use Rattle.crash_safety_laws.proofs.a_change_stays_safe.Goals as goal

pub returns-clause-held : goal.returns-clause-held
returns-clause-held c = change-safe ⊤

pub returns-clause-spent : goal.returns-clause-spent
returns-clause-spent c = spent-stays ⊤

pub returns-clause-any : goal.returns-clause-any
returns-clause-any c = safe-change ⊤
