use Rattle.sb_read_laws.proofs.StageReads.{catching-reads, caught-held}
use Rattle.sb_read_laws.proofs.slots_catching_up_read.Goals as goal

pub returns : goal.returns
returns c = λ scope known lost left newest own d e held within stage. (
  λ image drawn. catching-reads scope known lost newest own d held left within e image stage drawn,
  caught-held scope known lost newest own d held left within e stage,
)
