use Rattle.std.specs.Prelude.{⊤}
use Rattle.crash_reshape_laws.proofs.RunLaws.{records-seen}
use Rattle.crash_reshape_laws.proofs.records_are_seen_right.Goals as goal

pub returns : goal.returns
returns c = records-seen ⊤
