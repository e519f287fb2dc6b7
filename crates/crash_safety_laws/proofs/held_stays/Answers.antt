use Rattle.std.specs.Prelude.{⊤}
use Rattle.crash_safety_laws.proofs.HeldKept.{held-marks}
use Rattle.crash_safety_laws.proofs.held_stays.Goals as goal

pub returns : goal.returns
returns c = λ scope members start tape ops elsewhere held. held-marks ⊤ scope members start tape ops elsewhere held
