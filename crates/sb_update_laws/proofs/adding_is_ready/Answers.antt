use Rattle.sb_update_laws.proofs.AddingStarts.{adding-ready}
use Rattle.sb_update_laws.proofs.adding_is_ready.Goals as goal

pub returns : goal.returns
returns c = λ scope known left members change live slot sb d adding. adding-ready scope known left members change live slot sb d adding
