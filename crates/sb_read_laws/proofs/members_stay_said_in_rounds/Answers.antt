use Rattle.sb_read_laws.proofs.Tied.{stay-said-in-rounds}
use Rattle.sb_read_laws.proofs.members_stay_said_in_rounds.Goals as goal

pub returns : goal.returns
returns c = stay-said-in-rounds
