use Rattle.crash_shift_views.proofs.Lowered.{regions-lowered}
use Rattle.crash_shift_views.proofs.regions_read_lowered.Goals as goal

pub returns : goal.returns
returns c = regions-lowered
