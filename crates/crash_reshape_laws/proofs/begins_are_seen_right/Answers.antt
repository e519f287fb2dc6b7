use Rattle.std.specs.Prelude.{⊤}
use Rattle.crash_reshape_laws.proofs.EndLaws.{begins-seen}
use Rattle.crash_reshape_laws.proofs.begins_are_seen_right.Goals as goal

pub returns : goal.returns
returns c = begins-seen ⊤
