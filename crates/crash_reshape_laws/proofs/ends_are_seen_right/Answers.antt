use Rattle.std.specs.Prelude.{⊤}
use Rattle.crash_reshape_laws.proofs.GrownLaws.{ends-seen}
use Rattle.crash_reshape_laws.proofs.ends_are_seen_right.Goals as goal

pub returns : goal.returns
returns c = ends-seen ⊤
