use Rattle.sb_update_laws.proofs.Laws.{turning-reads}
use Rattle.sb_update_laws.proofs.update_transition_reads.Goals as goal

pub returns : goal.returns
returns c = turning-reads
