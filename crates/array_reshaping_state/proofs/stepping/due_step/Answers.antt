use Rattle.std.proofs.Common.{sym, subst}
use Rattle.array_reshaping_state.specs.declared.stepping.Due.{Due}
use Rattle.array_reshaping_state.specs.Due.{IsDue}
use Rattle.array_reshaping_state.proofs.DueLaws.{due-is}
use Rattle.array_reshaping_state.proofs.stepping.due_step.Goals as goal

pub returns-clause-ready : goal.returns-clause-ready
returns-clause-ready c =
    let newest = c.args.members.now.newest in
    let course = c.args.course.now in
    subst (λ (due : Due). IsDue newest course c.args.resync due) (sym c.due_at.ensures)
    (due-is newest course c.args.resync c.requires.fit c.requires.active c.requires.course c.requires.progress)
