use Rattle.reshape_shift_laws.proofs.ShiftLaws.{windows-overwrite-nothing}
use Rattle.reshape_shift_laws.proofs.shifted_windows_overwrite_nothing.Goals as goal

pub returns : goal.returns
returns c = windows-overwrite-nothing
