use Rattle.std.proofs.Common.{arith}
use Rattle.array_reshaping_laws.proofs.array_fixed_laws_Left.{left-few}
use Rattle.array_type.proofs.state.left.left_at_rest.Goals as goal

pub overflow_add-result : goal.overflow_add-result
overflow_add-result c = let few = left-few c.args.work.now c.args.members.now c.requires.shape c.requires.size in omega (arith, few, c.steps_left-left.ensures, c.planned_left.ensures.few)
