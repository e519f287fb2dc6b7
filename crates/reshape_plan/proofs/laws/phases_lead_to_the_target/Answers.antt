use Rattle.reshape_plan.proofs.Sound.{phases_lead}
use Rattle.reshape_plan.proofs.laws.phases_lead_to_the_target.Goals as goal

pub returns : goal.returns
returns c = phases_lead
