use Rattle.sb_read_laws.proofs.StageReads.{taking-reads}
use Rattle.sb_read_laws.proofs.slots_in_a_round_read.Goals as goal

pub returns : goal.returns
returns c = λ scope known lost left former newest gives own own' d e r stage image drawn.
    taking-reads scope known lost former own d r.held left r.within r.level newest gives r.fit own' r.kept e image stage drawn
