use Rattle.history.proofs.SettledLaws.{safe-of-sources}
use Rattle.history.proofs.laws.sources_suffice.Goals as goal

pub returns : goal.returns
returns c = safe-of-sources
