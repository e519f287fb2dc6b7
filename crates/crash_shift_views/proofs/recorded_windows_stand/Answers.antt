use Rattle.crash_shift_views.proofs.Windows.{windows-recorded}
use Rattle.crash_shift_views.proofs.recorded_windows_stand.Goals as goal

pub returns : goal.returns
returns c = windows-recorded
