use Rattle.crash_reshape_laws.proofs.PlanRoles.{plans-keep}
use Rattle.crash_reshape_laws.proofs.plans_keep_roles.Goals as goal

pub returns : goal.returns
returns c = plans-keep
