use Rattle.array_members.proofs.Still.{held-placed}
use Rattle.array_members.proofs.laws.held_members_are_placed.Goals as goal

pub returns : goal.returns
returns c = held-placed
