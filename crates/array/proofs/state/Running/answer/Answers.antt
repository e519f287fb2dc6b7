use Rattle.std.proofs.Common.{◌≡◌, ◌≤◌, [], ◌∷◌, false, length, ap, sym, subst}
use Rattle.array_takeover.specs.sb_specs_Reading.{is_reshaping}
use Rattle.array_grow.specs.array_members_Placed.{AreWhole}
use Rattle.array_grow.specs.history_invariant_Recorded.{IsCallGoing}
use Rattle.array_grow.specs.array_fixed_laws_Steps.{MayAnswer}
use Rattle.array_grow.proofs.array_type_Rest.{on-both}
use Rattle.array.specs.Calls.{IsReplyNow}
use Rattle.array.proofs.Answered.{reply-still, reply-moving, reply-none, rest-left, moving-left}
use Rattle.array_grow.proofs.array_fixed_laws_PlansKept.{add-entered}
use Rattle.array.proofs.Both.{both-called}
use Rattle.array.proofs.state.Running.answer.Goals as goal

pub answer-requires-clause-open : goal.answer-requires-clause-open
answer-requires-clause-open g c = subst (λ p. IsCallGoing p.parts.entries c.args.who) (sym c.self.view_is) c.requires.open

pub answer-requires-clause-room : goal.answer-requires-clause-room
answer-requires-clause-room g c = subst (λ p. 1 ≤ p.parts.steps) (sym c.self.view_is) c.requires.room

pub answer-requires-clause-plans : goal.answer-requires-clause-plans
answer-requires-clause-plans g c = λ still. (c.self.invariant.rests still).plans

pub answer-requires-clause-closable : goal.answer-requires-clause-closable
answer-requires-clause-closable g c =
    subst (λ p. is_reshaping p.parts.members.newest ≡ false → MayAnswer p.parts.entries p.parts.work p.parts.members p.ahead c.args.event) (sym c.self.view_is) c.requires.closable

pub answer-requires-clause-reply_at_rest : goal.answer-requires-clause-reply_at_rest
answer-requires-clause-reply_at_rest g c = λ still. reply-still c.self.inside.array c.args.event still (subst (λ p. IsReplyNow p c.args.event) (sym c.self.view_is) c.requires.reply)

pub answer-requires-clause-reply_in_reshape : goal.answer-requires-clause-reply_in_reshape
answer-requires-clause-reply_in_reshape g c =
    λ active. reply-moving c.self.inside.array c.args.event active (c.check_array.ensures.some active) (subst (λ p. IsReplyNow p c.args.event) (sym c.self.view_is) c.requires.reply)

pub invariant_of-self : goal.invariant_of-self
invariant_of-self g c =
    let old = c.self.inside.array in
    let did = c.answer.ensures in
    let reply : IsReplyNow old c.args.event = subst (λ p. IsReplyNow p c.args.event) (sym c.self.view_is) c.requires.reply in
    let added = add-entered (c.args.event ∷ []) did.entered (reply-none old c.args.event reply c.args.who) in
    both-called g.B.Bank.given g.B.Bank.tape (length c.self.inside.window.items) old c.answer.new.array did.active (ap g.B.Bank.given did.bank) added did.called (λ still whole. subst AreWhole did.members whole)
    c.check_array-2.ensures.rest c.check_array-2.ensures.within c.self.invariant

pub returns-clause-entered : goal.returns-clause-entered
returns-clause-entered g c = rw (← c.self.view_is) c.answer.ensures.entered

pub returns-clause-rest : goal.returns-clause-rest
returns-clause-rest g c =
    let array = c.self.inside.array in
    rw (← c.self.view_is) (on-both (is_reshaping array.parts.members.newest) (λ active. moving-left array active (c.check_array.ensures.some active)) (λ still. rest-left array still))

pub returns-clause-called : goal.returns-clause-called
returns-clause-called g c = rw (← c.self.view_is) c.answer.ensures.called
