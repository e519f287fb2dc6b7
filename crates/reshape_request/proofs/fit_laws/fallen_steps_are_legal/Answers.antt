use Rattle.reshape_request.proofs.FitLaws.{fallen-legal}
use Rattle.reshape_request.proofs.fit_laws.fallen_steps_are_legal.Goals as goal

pub returns : goal.returns
returns c = fallen-legal
