use Rattle.history_whole_laws.proofs.Whole.{whole-lack-nothing}
use Rattle.history_whole_laws.proofs.laws.whole_arrays_lack_nothing.Goals as goal

pub returns : goal.returns
returns c = whole-lack-nothing
