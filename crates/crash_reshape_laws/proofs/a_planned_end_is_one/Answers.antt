use Rattle.crash_reshape_laws.proofs.PlanRoles.{planned-ended}
use Rattle.crash_reshape_laws.proofs.a_planned_end_is_one.Goals as goal

pub returns : goal.returns
returns c = planned-ended
