use Rattle.sb_update_laws.proofs.Laws.{making-reads}
use Rattle.sb_update_laws.proofs.update_making_whole_reads.Goals as goal

pub returns : goal.returns
returns c = making-reads
