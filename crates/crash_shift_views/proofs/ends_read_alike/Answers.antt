use Rattle.crash_shift_views.proofs.Alike.{ended-alike}
use Rattle.crash_shift_views.proofs.ends_read_alike.Goals as goal

pub returns : goal.returns
returns c = ended-alike
