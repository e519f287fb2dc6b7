use Rattle.crash_views.proofs.Stands.{moved-is-placed}
use Rattle.crash_views.proofs.moved_members_are_placed.Goals as goal

pub returns : goal.returns
returns c = moved-is-placed
