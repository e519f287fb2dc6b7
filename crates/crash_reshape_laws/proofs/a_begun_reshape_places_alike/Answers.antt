use Rattle.crash_reshape_laws.proofs.EndLaws.{begun-alike}
use Rattle.crash_reshape_laws.proofs.a_begun_reshape_places_alike.Goals as goal

pub returns : goal.returns
returns c = begun-alike
