use Rattle.std.proofs.Common.{◌+◌, refl}
use Rattle.array_transition.proofs.Begun.{begun-counted}
use Rattle.array_transition.proofs.beginning.begun_left.Goals as goal

pub returns : goal.returns
returns c =
    begun-counted c.args.members.now c.args.behind.now c.args.to.now c.reshape_left-moved.result c.planned_left.result (c.reshape_left-moved.result + c.planned_left.result) c.requires.reshape.active c.requires.to
    c.reshape_left-moved.ensures.value c.planned_left.ensures.value refl
