use Rattle.sb_specs.proofs.SameLaws.{reading-same}
use Rattle.sb_read_laws.proofs.reading_is_of_superblocks.Goals as goal

pub returns : goal.returns
returns c = reading-same
