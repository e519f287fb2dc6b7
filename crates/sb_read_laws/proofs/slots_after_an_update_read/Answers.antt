use Rattle.sb_read_laws.proofs.WholeReads.{whole-end}
use Rattle.sb_read_laws.proofs.slots_after_an_update_read.Goals as goal

pub returns : goal.returns
returns c = λ scope known lost left former newest gives own own' d e w staged taken some. whole-end scope known lost left former newest gives own own' d w e staged taken some
