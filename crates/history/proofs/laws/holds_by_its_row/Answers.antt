use Rattle.history.proofs.SameLaws.{stands-by-row}
use Rattle.history.proofs.laws.holds_by_its_row.Goals as goal

pub returns : goal.returns
returns c = stands-by-row
