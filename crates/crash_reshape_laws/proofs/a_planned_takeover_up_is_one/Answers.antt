use Rattle.crash_reshape_laws.proofs.PlanRoles.{planned-up}
use Rattle.crash_reshape_laws.proofs.a_planned_takeover_up_is_one.Goals as goal

pub returns : goal.returns
returns c = planned-up
