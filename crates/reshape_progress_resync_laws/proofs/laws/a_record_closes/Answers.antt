use Rattle.std.specs.Prelude.{⊤}
use Rattle.reshape_progress_resync_laws.proofs.Windows.{mended-records-close}
use Rattle.reshape_progress_resync_laws.proofs.laws.a_record_closes.Goals as goal

pub returns : goal.returns
returns c = mended-records-close ⊤
