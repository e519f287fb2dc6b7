use Rattle.std.specs.Prelude.{⊤}
use Rattle.crash_reshape_laws.proofs.RunLaws.{windows-right}
use Rattle.crash_reshape_laws.proofs.windows_stay_right.Goals as goal

pub returns : goal.returns
returns c = windows-right ⊤
