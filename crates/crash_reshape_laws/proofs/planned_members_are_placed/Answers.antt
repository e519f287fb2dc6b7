use Rattle.crash_reshape_laws.proofs.PlanPlaced.{planned-placed}
use Rattle.crash_reshape_laws.proofs.planned_members_are_placed.Goals as goal

pub returns : goal.returns
returns c = planned-placed
