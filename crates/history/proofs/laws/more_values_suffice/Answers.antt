use Rattle.history.proofs.DrawnLaws.{more-values-suffice}
use Rattle.history.proofs.laws.more_values_suffice.Goals as goal

pub returns : goal.returns
returns c = more-values-suffice
