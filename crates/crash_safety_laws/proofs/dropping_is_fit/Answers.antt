use Rattle.crash_safety_laws.proofs.FitKinds.{dropping-is-fit}
use Rattle.crash_safety_laws.proofs.dropping_is_fit.Goals as goal

pub returns : goal.returns
returns c = dropping-is-fit
