use Rattle.crash_reshape_laws.proofs.GrownStanding.{grown-stands}
use Rattle.crash_reshape_laws.proofs.a_grown_list_holds.Goals as goal

pub returns : goal.returns
returns c = grown-stands
