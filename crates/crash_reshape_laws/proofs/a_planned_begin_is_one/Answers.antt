use Rattle.crash_reshape_laws.proofs.PlanRoles.{planned-begun}
use Rattle.crash_reshape_laws.proofs.a_planned_begin_is_one.Goals as goal

pub returns : goal.returns
returns c = planned-begun
