use Rattle.crash_shift_views.proofs.Alike.{begun-alike}
use Rattle.crash_shift_views.proofs.begins_read_alike.Goals as goal

pub returns : goal.returns
returns c = begun-alike
