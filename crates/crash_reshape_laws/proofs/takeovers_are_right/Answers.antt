use Rattle.std.specs.Prelude.{⊤}
use Rattle.crash_reshape_laws.proofs.Takeovers.{takeovers}
use Rattle.crash_reshape_laws.proofs.takeovers_are_right.Goals as goal

pub returns : goal.returns
returns c = takeovers ⊤
