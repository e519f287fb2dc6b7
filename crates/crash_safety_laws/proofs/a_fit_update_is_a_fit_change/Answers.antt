use Rattle.crash_safety_laws.proofs.FitChanges.{fit-update-fits}
use Rattle.crash_safety_laws.proofs.a_fit_update_is_a_fit_change.Goals as goal

pub returns : goal.returns
returns c = fit-update-fits
