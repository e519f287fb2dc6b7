use Rattle.std.specs.Prelude.{⊤}
use Rattle.crash_reshape_laws.proofs.CopyRuns.{copies-seen}
use Rattle.crash_reshape_laws.proofs.copies_are_seen_right.Goals as goal

pub returns : goal.returns
returns c = copies-seen ⊤
