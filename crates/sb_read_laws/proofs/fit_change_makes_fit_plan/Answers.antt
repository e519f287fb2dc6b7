use Rattle.sb_read_laws.proofs.PlanFits.{plan-fits}
use Rattle.sb_read_laws.proofs.fit_change_makes_fit_plan.Goals as goal

pub returns : goal.returns
returns c = λ scope known lost left before members change d held within fits. plan-fits scope known lost left before members change d held within fits
