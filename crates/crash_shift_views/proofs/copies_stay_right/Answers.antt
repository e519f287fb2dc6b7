use Rattle.crash_shift_views.proofs.Windows.{copies-right}
use Rattle.crash_shift_views.proofs.copies_stay_right.Goals as goal

pub returns : goal.returns
returns c = copies-right
