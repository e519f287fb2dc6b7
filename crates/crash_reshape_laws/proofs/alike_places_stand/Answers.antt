use Rattle.crash_reshape_laws.proofs.EndLaws.{places-alike-stand}
use Rattle.crash_reshape_laws.proofs.alike_places_stand.Goals as goal

pub returns : goal.returns
returns c = places-alike-stand
