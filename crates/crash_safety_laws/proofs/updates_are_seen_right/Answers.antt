use Rattle.std.specs.Prelude.{⊤}
use Rattle.crash_safety_laws.proofs.LessViews.{updates-seen}
use Rattle.crash_safety_laws.proofs.updates_are_seen_right.Goals as goal

pub returns : goal.returns
returns c = updates-seen ⊤
