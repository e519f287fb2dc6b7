use Rattle.sb_read_laws.proofs.Tied.{stay-said}
use Rattle.sb_read_laws.proofs.members_stay_said.Goals as goal

pub returns : goal.returns
returns c = stay-said
