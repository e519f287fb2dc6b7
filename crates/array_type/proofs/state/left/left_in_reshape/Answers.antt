use Rattle.array_reshaping_laws.proofs.Behind.{position-within}
use Rattle.array_type.proofs.state.left.left_in_reshape.Goals as goal

pub resync_left-requires-clause-within : goal.resync_left-requires-clause-within
resync_left-requires-clause-within c = position-within c.args.members.now.newest c.args.course.now.window c.requires.fit c.requires.reshape.active c.requires.open
