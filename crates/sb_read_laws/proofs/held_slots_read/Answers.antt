use Rattle.sb_read_laws.proofs.StageReads.{held-reads}
use Rattle.sb_read_laws.proofs.held_slots_read.Goals as goal

pub returns : goal.returns
returns c = λ scope known lost newest own d held image drawn. held-reads scope known lost newest own d held known (λ s is. is) image drawn
