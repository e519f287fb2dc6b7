use Rattle.std.specs.Prelude.{⊤}
use Rattle.crash_views.proofs.Stands.{flushed-right}
use Rattle.crash_views.proofs.flushed_members_are_right.Goals as goal

pub returns : goal.returns
returns c = flushed-right ⊤
