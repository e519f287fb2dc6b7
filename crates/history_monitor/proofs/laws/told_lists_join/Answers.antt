use Rattle.history_monitor.proofs.ToldLaws.{told-append}
use Rattle.history_monitor.proofs.laws.told_lists_join.Goals as goal

pub returns : goal.returns
returns g c = told-append _
