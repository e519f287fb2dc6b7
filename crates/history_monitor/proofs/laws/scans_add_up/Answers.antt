use Rattle.history_monitor.proofs.ToldLaws.{told-since}
use Rattle.history_monitor.proofs.laws.scans_add_up.Goals as goal

pub returns : goal.returns
returns g c = told-since _
