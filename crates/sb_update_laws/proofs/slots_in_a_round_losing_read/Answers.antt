use Rattle.sb_update_laws.proofs.LosingReads.{losing-reads}
use Rattle.sb_update_laws.proofs.slots_in_a_round_losing_read.Goals as goal

pub returns : goal.returns
returns c = λ scope known lost gone left rest slot former newest named gives own own' rest_own d e l stage image drawn.
    losing-reads scope known lost gone left rest slot former newest named gives own own' rest_own d l e stage image drawn
