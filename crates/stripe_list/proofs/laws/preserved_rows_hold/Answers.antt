use Rattle.stripe_list.proofs.FullLaws.{kept-rows-stand}
use Rattle.stripe_list.proofs.laws.preserved_rows_hold.Goals as goal

pub returns : goal.returns
returns c = kept-rows-stand
