use Rattle.crash_reshape_laws.proofs.GrownStanding.{grown-without}
use Rattle.crash_reshape_laws.proofs.a_grown_array_does_without.Goals as goal

pub returns : goal.returns
returns c = grown-without
