use Rattle.std.specs.Prelude.{⊤}
use Rattle.crash_safety_laws.proofs.PlacedLess.{placed-less-right}
use Rattle.crash_safety_laws.proofs.a_view_placed_alike_is_right.Goals as goal

pub returns : goal.returns
returns c = placed-less-right ⊤
