use Rattle.reshape_shift_laws.proofs.ShiftLaws.{windows-reach}
use Rattle.reshape_shift_laws.proofs.windows_reach_no_other_row.Goals as goal

pub returns : goal.returns
returns c = windows-reach
