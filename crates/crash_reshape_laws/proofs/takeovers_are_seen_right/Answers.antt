use Rattle.std.specs.Prelude.{⊤}
use Rattle.crash_reshape_laws.proofs.Takeovers.{takeovers-seen}
use Rattle.crash_reshape_laws.proofs.takeovers_are_seen_right.Goals as goal

pub returns : goal.returns
returns c = takeovers-seen ⊤
