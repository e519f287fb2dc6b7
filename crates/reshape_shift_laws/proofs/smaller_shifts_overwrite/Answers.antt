use Rattle.reshape_shift_laws.proofs.ShiftLaws.{smaller-overwrite}
use Rattle.reshape_shift_laws.proofs.smaller_shifts_overwrite.Goals as goal

pub returns : goal.returns
returns c = smaller-overwrite
