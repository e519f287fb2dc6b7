use Rattle.crash_reshape_laws.proofs.PlanRoles.{planned-down}
use Rattle.crash_reshape_laws.proofs.a_planned_takeover_down_is_one.Goals as goal

pub returns : goal.returns
returns c = planned-down
