use Rattle.sb_read_laws.proofs.WholeReads.{whole-reads}
use Rattle.sb_read_laws.proofs.updated_slots_read.Goals as goal

pub returns : goal.returns
returns c = λ scope known lost left former newest gives own own' d e w stage. whole-reads scope known lost left former newest gives own own' d w e stage
