use Rattle.raid_parity.proofs.OwnFills.{fills-are-unique}
use Rattle.raid_parity.proofs.laws.fills_are_unique.Goals as goal

pub returns : goal.returns
returns c = fills-are-unique
