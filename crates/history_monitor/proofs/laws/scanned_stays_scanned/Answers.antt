use Rattle.history_monitor.proofs.AlertLaws.{stays-scanned}
use Rattle.history_monitor.proofs.laws.scanned_stays_scanned.Goals as goal

pub returns : goal.returns
returns c = stays-scanned
