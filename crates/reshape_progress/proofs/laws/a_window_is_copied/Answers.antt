use Rattle.std.specs.Prelude.{⊤}
use Rattle.reshape_progress.proofs.Courses.{windows-copied}
use Rattle.reshape_progress.proofs.laws.a_window_is_copied.Goals as goal

pub returns : goal.returns
returns c = windows-copied ⊤
