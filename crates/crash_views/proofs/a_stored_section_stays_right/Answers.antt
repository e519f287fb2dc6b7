use Rattle.std.specs.Prelude.{⊤}
use Rattle.crash_views.proofs.WindowLaws.{storing-right}
use Rattle.crash_views.proofs.a_stored_section_stays_right.Goals as goal

pub returns : goal.returns
returns c = storing-right ⊤
