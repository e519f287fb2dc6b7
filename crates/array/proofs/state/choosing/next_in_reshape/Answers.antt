use Rattle.std.proofs.Common.{sym, ◌∙◌, ap}
use Rattle.array_takeover.specs.sb_specs_Reading.{is_reshaping}
use Rattle.array_grow.specs.array_reshaping_state_Due.{due_of}
use Rattle.array_grow.proofs.array_reshaping_laws_ResyncLaws.{left-some}
use Rattle.array_grow.proofs.array_type_Alike.{alike}
use Rattle.array.proofs.Answered.{moving-some}
use Rattle.array.proofs.state.choosing.next_in_reshape.Goals as goal

pub due_step-requires-clause-fit : goal.due_step-requires-clause-fit
due_step-requires-clause-fit g c = (alike c.array.invariant).kept.members_are.placed.fit

pub due_step-requires-clause-active : goal.due_step-requires-clause-active
due_step-requires-clause-active g c = ap (λ p. is_reshaping p.parts.members.newest) c.array.view_is ∙ c.requires.active

pub due_step-requires-clause-course : goal.due_step-requires-clause-course
due_step-requires-clause-course g c =
    let active = ap (λ p. is_reshaping p.parts.members.newest) c.array.view_is ∙ c.requires.active in
    (c.array.invariant.moves active).1.kept.course_is

pub due_step-requires-clause-progress : goal.due_step-requires-clause-progress
due_step-requires-clause-progress g c =
    let active = ap (λ p. is_reshaping p.parts.members.newest) c.array.view_is ∙ c.requires.active in
    (c.array.invariant.moves active).1.kept.progress

pub returns-in-Finish-clause-next : goal.returns-in-Finish-clause-next
returns-in-Finish-clause-next g c =
    let due = ap (λ m. due_of m.parts.members.newest m.course m.parts.work.resync) (sym c.array.view_is) ∙ sym c.due_step.ensures.value in
    (c.requires.active, due ∙ c.in-Finish.is)

pub returns-in_default-clause-next : goal.returns-in_default-clause-next
returns-in_default-clause-next g c =
    let due = ap (λ m. due_of m.parts.members.newest m.course m.parts.work.resync) (sym c.array.view_is) ∙ sym c.due_step.ensures.value in
    (c.requires.active, λ ends. c.in_default.not-Finish (sym due ∙ ends))

pub returns-in-Finish-clause-some : goal.returns-in-Finish-clause-some
returns-in-Finish-clause-some g c =
    let a = c.array.inside in
    let active = ap (λ p. is_reshaping p.parts.members.newest) c.array.view_is ∙ c.requires.active in
    λ not. moving-some c.args.array.now c.requires.active (rw (← c.array.view_is) (left-some a.members a.work a.course a.ahead active (c.array.invariant.moves active).1.kept.course_is))

pub returns-in_default-clause-some : goal.returns-in_default-clause-some
returns-in_default-clause-some g c =
    let a = c.array.inside in
    let active = ap (λ p. is_reshaping p.parts.members.newest) c.array.view_is ∙ c.requires.active in
    λ not. moving-some c.args.array.now c.requires.active (rw (← c.array.view_is) (left-some a.members a.work a.course a.ahead active (c.array.invariant.moves active).1.kept.course_is))
