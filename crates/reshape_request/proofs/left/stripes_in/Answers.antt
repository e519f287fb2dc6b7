use Rattle.reshape_request.proofs.LeftLaws.{entered-inside}
use Rattle.reshape_request.proofs.left.stripes_in.Goals as goal

pub stripes-requires-clause-inside : goal.stripes-requires-clause-inside
stripes-requires-clause-inside c = entered-inside c.args.members.now.newest c.args.span.now c.requires.reshape c.requires.next
