use Rattle.crash_shift_views.proofs.Windows.{copied-alike}
use Rattle.crash_shift_views.proofs.copied_windows_read_alike.Goals as goal

pub returns : goal.returns
returns c = copied-alike
