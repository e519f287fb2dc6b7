use Rattle.crash_safety_laws.proofs.FitKinds.{taking-is-fit}
use Rattle.crash_safety_laws.proofs.taking_is_fit.Goals as goal

pub returns : goal.returns
returns c = taking-is-fit
