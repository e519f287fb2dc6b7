use Rattle.std.specs.Prelude.{⊤}
use Rattle.crash_views.proofs.BackupLaws.{sections-right}
use Rattle.crash_views.proofs.stored_and_named_sections_stay_right.Goals as goal

pub returns : goal.returns
returns c = sections-right ⊤
