use Rattle.std.proofs.Common.{◌≤◌, length, refl, sym, ◌∙◌, ap, subst, inl}
use Rattle.array_takeover.specs.sb_specs_Reading.{is_reshaping}
use Rattle.array_takeover.specs.history_the_Event_TheVariants.{Refused}
use Rattle.array_grow.proofs.array_fixed_laws_PlansKept.{add-behind}
use Rattle.array_grow.specs.history_invariant_Recorded.{IsCallGoing}
use Rattle.array.proofs.Ended.{ends-moving, closable-ended}
use Rattle.array.proofs.Both.{kept-at-rest, kept-in-reshape}
use Rattle.array.proofs.Kept.{rest-ended, reshape-called}
use Rattle.array.proofs.state.Running.finish.Goals as goal

pub finish_reshape-requires-clause-plans : goal.finish_reshape-requires-clause-plans
finish_reshape-requires-clause-plans g c = let active = ap (λ p. is_reshaping p.parts.members.newest) c.self.view_is ∙ c.requires.active in
    let was = c.self.invariant.moves active in was.plans

pub invariant_of-result : goal.invariant_of-result
invariant_of-result g c =
    let active = ap (λ p. is_reshaping p.parts.members.newest) c.self.view_is ∙ c.requires.active in
    let was = c.self.invariant.moves active in
    let old = c.self.inside.array in
    let new = c.in-Ok.array in
    let did = c.in-Ok.ensures.ended in
    let given_is = c.in-Ok.ensures.given in
    kept-at-rest g.B.Bank.given g.B.Bank.tape (length c.self.inside.window.items) new
    (rest-ended g.B.Bank.given g.B.Bank.tape (length c.self.inside.window.items) old new given_is did (c.check_array.ensures.aside active) (c.check_array-in-Ok.ensures.rest c.in-Ok.ensures.still) c.check_array-in-Ok.ensures.within was)

pub invariant_of-running : goal.invariant_of-running
invariant_of-running g c =
    let active = ap (λ p. is_reshaping p.parts.members.newest) c.self.view_is ∙ c.requires.active in
    let was = c.self.invariant.moves active in
    let old = c.self.inside.array in
    let new = c.in-Err.array in
    let called = c.in-Err.ensures.called in
    let refused = c.in-Err.ensures.refused in
    let given_is = c.in-Err.ensures.left_given in
    kept-in-reshape g.B.Bank.given g.B.Bank.tape (length c.self.inside.window.items) new
    (reshape-called g.B.Bank.given g.B.Bank.tape (length c.self.inside.window.items) old new given_is (add-behind (Refused c.in-Err.refusal) refused refl) called c.in-Err.ensures.left_active c.check_array-in-Err.ensures.within was)

pub returns-in-Ok-clause-closable : goal.returns-in-Ok-clause-closable
returns-in-Ok-clause-closable g c = (closable-ended c.in-Ok.array c.in-Ok.ensures.ended.entered)

pub returns-in-Err-clause-ends : goal.returns-in-Err-clause-ends
returns-in-Err-clause-ends g c = (ends-moving c.in-Err.array c.in-Err.refusal c.in-Err.ensures.left_active (inl c.in-Err.ensures.caused))

pub finish_reshape-requires-clause-open : goal.finish_reshape-requires-clause-open
finish_reshape-requires-clause-open g c = (subst (λ p. IsCallGoing p.parts.entries c.args.who) (sym c.self.view_is) c.requires.open)

pub finish_reshape-requires-clause-room : goal.finish_reshape-requires-clause-room
finish_reshape-requires-clause-room g c = (subst (λ p. 2 ≤ p.parts.steps) (sym c.self.view_is) c.requires.room)

pub returns-in-Ok-clause-ended : goal.returns-in-Ok-clause-ended
returns-in-Ok-clause-ended g c = rw (← c.self.view_is) (c.in-Ok.ensures.ended)

pub returns-in-Ok-clause-given : goal.returns-in-Ok-clause-given
returns-in-Ok-clause-given g c = rw (← c.self.view_is) (c.in-Ok.ensures.given)

pub returns-in-Err-clause-caused : goal.returns-in-Err-clause-caused
returns-in-Err-clause-caused g c = c.in-Err.ensures.caused

pub returns-in-Err-clause-refused : goal.returns-in-Err-clause-refused
returns-in-Err-clause-refused g c = rw (← c.self.view_is) (c.in-Err.ensures.refused)

pub returns-in-Err-clause-called : goal.returns-in-Err-clause-called
returns-in-Err-clause-called g c = rw (← c.self.view_is) (c.in-Err.ensures.called)

pub returns-in-Err-clause-course : goal.returns-in-Err-clause-course
returns-in-Err-clause-course g c = rw (← c.self.view_is) (c.in-Err.ensures.course)

pub returns-in-Err-clause-steps : goal.returns-in-Err-clause-steps
returns-in-Err-clause-steps g c = rw (← c.self.view_is) (c.in-Err.ensures.steps)

pub returns-in-Err-clause-left_given : goal.returns-in-Err-clause-left_given
returns-in-Err-clause-left_given g c = rw (← c.self.view_is) (c.in-Err.ensures.left_given)

pub finish_reshape-requires-clause-active : goal.finish_reshape-requires-clause-active
finish_reshape-requires-clause-active g c = ap (λ p. is_reshaping p.parts.members.newest) c.self.view_is ∙ c.requires.active
