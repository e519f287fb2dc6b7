use Rattle.std.specs.Prelude.{⊤}
use Rattle.crash_views.proofs.WindowLaws.{naming-right}
use Rattle.crash_views.proofs.a_named_section_stays_right.Goals as goal

pub returns : goal.returns
returns c = naming-right ⊤
