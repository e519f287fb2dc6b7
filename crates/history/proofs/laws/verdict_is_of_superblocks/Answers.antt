use Rattle.history.proofs.SameLaws.{verdict-same}
use Rattle.history.proofs.laws.verdict_is_of_superblocks.Goals as goal

pub returns : goal.returns
returns c = verdict-same
