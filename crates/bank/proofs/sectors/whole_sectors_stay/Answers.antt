use Rattle.bank.proofs.Whole.{sectors-whole}
use Rattle.bank.proofs.sectors.whole_sectors_stay.Goals as goal

pub returns : goal.returns
returns c = sectors-whole
