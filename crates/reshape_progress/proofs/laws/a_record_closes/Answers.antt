use Rattle.std.specs.Prelude.{⊤}
use Rattle.reshape_progress.proofs.Courses.{records-close}
use Rattle.reshape_progress.proofs.laws.a_record_closes.Goals as goal

pub returns : goal.returns
returns c = records-close ⊤
