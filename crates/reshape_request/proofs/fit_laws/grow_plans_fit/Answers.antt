use Rattle.reshape_request.proofs.FitLaws.{plans-fit}
use Rattle.reshape_request.proofs.fit_laws.grow_plans_fit.Goals as goal

pub returns : goal.returns
returns c = plans-fit
