use Rattle.crash_reshape_laws.proofs.Takeovers.{place-alike}
use Rattle.crash_reshape_laws.proofs.takeovers_place_alike.Goals as goal

pub returns : goal.returns
returns c = place-alike
