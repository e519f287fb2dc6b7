use Rattle.history_monitor.proofs.AlertLaws.{since-all}
use Rattle.history_monitor.proofs.laws.alerts_add_up.Goals as goal

pub returns : goal.returns
returns c = since-all
