use Rattle.raid_parity.proofs.OwnFills.{fills-are-own}
use Rattle.raid_parity.proofs.laws.fills_are_own.Goals as goal

pub returns : goal.returns
returns c = fills-are-own
