use Rattle.std.proofs.Common.{subst}
use Rattle.reshape_request.specs.Left.{IsWindowRight}
use Rattle.reshape_request.proofs.LeftLaws.{entered-inside}
use Rattle.reshape_request.proofs.left.reshape_left.Goals as goal

pub stripes-requires-clause-inside : goal.stripes-requires-clause-inside
stripes-requires-clause-inside c =
    let right = subst (IsWindowRight c.args.members.now.newest) c.in-Entered.is c.requires.open in
    entered-inside c.args.members.now.newest c.in-Entered.span c.requires.reshape right.0
