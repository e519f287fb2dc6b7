use Rattle.array_create_assemble.proofs.OpenedHeld.{opened-held}
use Rattle.array_create_assemble.proofs.laws.openings_are_held.Goals as goal

pub returns : goal.returns
returns c = λ bank tape backup asked opened few is flushed inside sectors. opened-held bank tape backup asked opened tt is inside flushed few sectors
