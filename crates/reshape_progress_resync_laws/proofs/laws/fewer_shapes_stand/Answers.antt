use Rattle.std.specs.Prelude.{⊤}
use Rattle.reshape_progress_resync_laws.proofs.Mended.{fewer-shapes}
use Rattle.reshape_progress_resync_laws.proofs.laws.fewer_shapes_stand.Goals as goal

pub returns : goal.returns
returns c = fewer-shapes ⊤
