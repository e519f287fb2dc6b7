use Rattle.crash_safety_laws.proofs.Steady.{held-read}
use Rattle.crash_safety_laws.proofs.held_is_read.Goals as goal

pub returns : goal.returns
returns c = held-read
