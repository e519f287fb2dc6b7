use Rattle.std.proofs.Common.{subst}
use Rattle.reshape_progress.specs.Course.{IsWindowOf}
use Rattle.array_reshaping_state.proofs.stepping.due_at.Goals as goal

pub window_stripes-requires-clause-next : goal.window_stripes-requires-clause-next
window_stripes-requires-clause-next c = (subst (IsWindowOf c.args.members.now.newest) c.in-Entered.is c.requires.course.window).0
