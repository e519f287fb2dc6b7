use Rattle.array_reshaping_state.proofs.ReshapeLaws.{under-way-of, active-of}
use Rattle.array_reshaping_state.proofs.reshape.window_stripes.Goals as goal

pub stripes_in-requires-clause-reshape : goal.stripes_in-requires-clause-reshape
stripes_in-requires-clause-reshape c =
    let newest = c.args.members.now.newest in
    under-way-of newest c.requires.fit (active-of newest c.args.span.now c.requires.next)
