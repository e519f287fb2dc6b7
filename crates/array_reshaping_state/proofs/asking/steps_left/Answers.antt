use Rattle.std.proofs.Common.{arith}
use Rattle.array_reshaping_state.proofs.ReshapeLaws.{under-way-of}
use Rattle.array_reshaping_state.proofs.LeftLaws.{right-of, some-left}
use Rattle.array_reshaping_state.proofs.asking.steps_left.Goals as goal

pub reshape_left-requires-clause-reshape : goal.reshape_left-requires-clause-reshape
reshape_left-requires-clause-reshape c = under-way-of c.args.members.now.newest c.requires.fit c.requires.active

pub reshape_left-requires-clause-open : goal.reshape_left-requires-clause-open
reshape_left-requires-clause-open c = right-of c.args.members.now.newest c.args.course.now.window c.requires.course.window

pub reshape_left-requires-clause-zeroed : goal.reshape_left-requires-clause-zeroed
reshape_left-requires-clause-zeroed c = c.requires.course.few

pub returns-clause-some : goal.returns-clause-some
returns-clause-some c =
    let some = some-left c.args.members.now.newest c.args.course.now.window c.args.course.now.zeroed c.requires.course.few in
    let value = c.reshape_left.ensures.value in
    omega (arith, some, value)
