use Rattle.std.proofs.Common.{◌≤◌, length, sym, ◌∙◌, ap, subst}
use Rattle.array_takeover.specs.sb_specs_Reading.{is_reshaping}
use Rattle.array_grow.specs.history_invariant_Recorded.{IsCallGoing}
use Rattle.array.proofs.Ended.{moved-refused}
use Rattle.array_grow.proofs.array_fixed_laws_PlansKept.{add-step}
use Rattle.array_grow.specs.array_reshaping_state_Due.{due_of}
use Rattle.array_grow.specs.array_reshaping_laws_Steps.{kind_of}
use Rattle.array.proofs.Both.{kept-in-reshape}
use Rattle.array.proofs.Kept.{reshape-stepped}
use Rattle.array.proofs.state.Running.move_on.Goals as goal

pub invariant_of-self : goal.invariant_of-self
invariant_of-self g c =
    let active = ap (λ p. is_reshaping p.parts.members.newest) c.self.view_is ∙ c.requires.active in
    let was = c.self.invariant.moves active in
    let old = c.self.inside.array in
    let new = c.step-done.new.moving in
    let did = c.step-done.ensures in
    let added = add-step c.args.who (kind_of (due_of old.parts.members.newest old.course old.parts.work.resync)) _ c.step-done.result did.entered in
    kept-in-reshape g.B.Bank.given g.B.Bank.tape (length c.self.inside.window.items) new
    (reshape-stepped g.B.Bank.given g.B.Bank.tape (length c.self.inside.window.items) old new did.given added did.called did.active c.check_array.ensures.within was)

pub returns-clause-ends : goal.returns-clause-ends
returns-clause-ends g c =
    let did = c.step-done.ensures in
    moved-refused _ _ _ c.self.inside.array c.step-done.new.moving c.args.who _ c.step-done.result did.active did.called.same.array.shape did.called.same.final did.work did.entered did.caused

pub step-done-requires-clause-open : goal.step-done-requires-clause-open
step-done-requires-clause-open g c = subst (λ p. IsCallGoing p.parts.entries c.args.who) (sym c.self.view_is) c.requires.open

pub step-done-requires-clause-room : goal.step-done-requires-clause-room
step-done-requires-clause-room g c = subst (λ p. 1 ≤ p.parts.steps) (sym c.self.view_is) c.requires.room

pub returns-clause-entered : goal.returns-clause-entered
returns-clause-entered g c = rw (← c.self.view_is) c.step-done.ensures.entered

pub returns-clause-called : goal.returns-clause-called
returns-clause-called g c = rw (← c.self.view_is) c.step-done.ensures.called

pub returns-clause-clean : goal.returns-clause-clean
returns-clause-clean g c = rw (← c.self.view_is) c.step-done.ensures.clean

pub returns-clause-caused : goal.returns-clause-caused
returns-clause-caused g c = rw (← c.self.view_is) c.step-done.ensures.caused

pub returns-clause-left : goal.returns-clause-left
returns-clause-left g c = rw (← c.self.view_is) c.step-done.ensures.left

pub returns-clause-course : goal.returns-clause-course
returns-clause-course g c = rw (← c.self.view_is) c.step-done.ensures.course

pub returns-clause-room : goal.returns-clause-room
returns-clause-room g c = rw (← c.self.view_is) c.step-done.ensures.room

pub returns-clause-given : goal.returns-clause-given
returns-clause-given g c = rw (← c.self.view_is) c.step-done.ensures.given

pub step-done-requires-clause-active : goal.step-done-requires-clause-active
step-done-requires-clause-active g c = ap (λ p. is_reshaping p.parts.members.newest) c.self.view_is ∙ c.requires.active

pub returns-clause-backed : goal.returns-clause-backed
returns-clause-backed g c = c.check_array.ensures.backed c.step-done.ensures.active
