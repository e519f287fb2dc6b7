use Rattle.std.specs.Prelude.{⊤}
use Rattle.crash_reshape_laws.proofs.PastWindows.{zeroing-right}
use Rattle.crash_reshape_laws.proofs.written_rows_past_the_end_stay_right.Goals as goal

pub returns : goal.returns
returns c = zeroing-right ⊤
