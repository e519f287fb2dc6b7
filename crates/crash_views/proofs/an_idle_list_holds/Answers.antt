use Rattle.crash_views.proofs.Stands.{still-stands}
use Rattle.crash_views.proofs.an_idle_list_holds.Goals as goal

pub returns : goal.returns
returns c = still-stands
