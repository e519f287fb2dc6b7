use Rattle.crash_views.proofs.Stands.{moved-stands}
use Rattle.crash_views.proofs.a_moved_list_holds.Goals as goal

pub returns : goal.returns
returns c = moved-stands
