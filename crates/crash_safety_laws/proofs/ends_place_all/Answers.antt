use Rattle.crash_safety_laws.proofs.LessViews.{ends-place}
use Rattle.crash_safety_laws.proofs.ends_place_all.Goals as goal

pub returns : goal.returns
returns c = ends-place
