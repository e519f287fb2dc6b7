use Rattle.crash_safety_laws.proofs.PlansLose.{plans-lose}
use Rattle.crash_safety_laws.proofs.plans_lose_roles.Goals as goal

pub returns : goal.returns
returns c = plans-lose
