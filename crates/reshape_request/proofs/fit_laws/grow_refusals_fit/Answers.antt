use Rattle.reshape_request.proofs.FitLaws.{refusals-fit}
use Rattle.reshape_request.proofs.fit_laws.grow_refusals_fit.Goals as goal

pub returns : goal.returns
returns c = refusals-fit
