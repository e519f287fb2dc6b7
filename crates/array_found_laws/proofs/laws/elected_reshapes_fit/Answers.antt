use Rattle.array_found_laws.proofs.Fit.{reshape-fits}
use Rattle.array_found_laws.proofs.laws.elected_reshapes_fit.Goals as goal

pub returns : goal.returns
returns c = reshape-fits
