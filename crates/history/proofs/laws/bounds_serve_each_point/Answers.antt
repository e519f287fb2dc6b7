use Rattle.history.proofs.StretchLaws.{bounds-serve}
use Rattle.history.proofs.laws.bounds_serve_each_point.Goals as goal

pub returns : goal.returns
returns c = bounds-serve
