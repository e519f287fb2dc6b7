use Rattle.sb_update_laws.proofs.MadeWholeSaid.{stay-said}
use Rattle.sb_update_laws.proofs.members_made_whole_stay_said.Goals as goal

pub returns : goal.returns
returns c = stay-said
