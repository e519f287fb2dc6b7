use Rattle.std.specs.Prelude.{⊤}
use Rattle.array_reshaping_open_laws.proofs.Opens.{openings-move}
use Rattle.array_reshaping_open_laws.proofs.openings_move.Goals as goal

pub returns : goal.returns
returns c = openings-move ⊤
