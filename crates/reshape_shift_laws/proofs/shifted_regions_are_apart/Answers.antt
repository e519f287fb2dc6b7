use Rattle.reshape_shift_laws.proofs.ShiftLaws.{regions-apart}
use Rattle.reshape_shift_laws.proofs.shifted_regions_are_apart.Goals as goal

pub returns : goal.returns
returns c = regions-apart
