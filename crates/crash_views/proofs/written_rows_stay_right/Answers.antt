use Rattle.std.specs.Prelude.{⊤}
use Rattle.crash_views.proofs.WindowLaws.{putting-right}
use Rattle.crash_views.proofs.written_rows_stay_right.Goals as goal

pub returns : goal.returns
returns c = putting-right ⊤
