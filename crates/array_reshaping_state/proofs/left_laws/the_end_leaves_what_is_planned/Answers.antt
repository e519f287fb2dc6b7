use Rattle.array_reshaping_state.proofs.LeftLaws.{end-leaves}
use Rattle.array_reshaping_state.proofs.left_laws.the_end_leaves_what_is_planned.Goals as goal

pub returns : goal.returns
returns c = end-leaves
