use Rattle.raid_parity.proofs.OwnFills.{good-rows-stay-good}
use Rattle.raid_parity.proofs.laws.good_rows_stay_good.Goals as goal

pub returns : goal.returns
returns c = good-rows-stay-good
