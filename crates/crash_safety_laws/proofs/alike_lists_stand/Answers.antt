use Rattle.crash_safety_laws.proofs.LessViews.{alike-stands}
use Rattle.crash_safety_laws.proofs.alike_lists_stand.Goals as goal

pub returns : goal.returns
returns c = alike-stands
