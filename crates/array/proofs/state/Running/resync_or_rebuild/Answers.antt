use Rattle.std.proofs.Common.{◌≡◌, ◌<◌, ◌≤◌, length, sym, ◌∙◌, ap, subst}
use Rattle.array_takeover.specs.sb_specs_Reading.{is_reshaping}
use Rattle.array_takeover.specs.history_the_StepKind_TheVariants.{RebuildEnded as EndsRebuild}
use Rattle.array_grow.specs.array_members_Status.{left_of}
use Rattle.array_grow.specs.array_specs_Calls.{moving_world}
use Rattle.array_grow.specs.array_fixed_laws_Steps.{IsCallUnbroken}
use Rattle.array_takeover.specs.array_fixed_sync_Stepping.{next_kind}
use Rattle.array_grow.specs.history_invariant_Recorded.{IsCallGoing}
use Rattle.array.proofs.Closed.{closed-stepped}
use Rattle.array.proofs.Entered.{add-stepped}
use Rattle.array.proofs.Both.{kept-at-rest}
use Rattle.array.proofs.Kept.{rest-stepped}
use Rattle.array.proofs.Ended.{own-refused}
use Rattle.array.proofs.state.Running.resync_or_rebuild.Goals as goal

pub still_step-done-requires-clause-plans : goal.still_step-done-requires-clause-plans
still_step-done-requires-clause-plans g c = let still = ap (λ p. is_reshaping p.parts.members.newest) c.self.view_is ∙ c.requires.still in
    let was = c.self.invariant.rests still in was.plans

pub still_step-done-requires-clause-unbroken : goal.still_step-done-requires-clause-unbroken
still_step-done-requires-clause-unbroken g c =
    subst (λ p. next_kind p.parts.work p.parts.members ≡ EndsRebuild → IsCallUnbroken g.B.Bank.tells (moving_world (g.B.Bank.given p.parts.bank) (g.B.Bank.tape p.parts.bank) p) p.parts.entries c.args.who)
    (sym c.self.view_is) c.requires.unbroken

pub invariant_of-self : goal.invariant_of-self
invariant_of-self g c =
    let still = ap (λ p. is_reshaping p.parts.members.newest) c.self.view_is ∙ c.requires.still in
    let was = c.self.invariant.rests still in
    let old = c.self.inside.array in
    let new = c.still_step-done.new.still in
    let did = c.still_step-done.ensures in
    let some = subst (λ p. 0 < left_of p.parts.work p.parts.members) (sym c.self.view_is) c.requires.pending in
    let added = add-stepped c.args.who old.parts.entries new.parts.entries old.parts.work old.parts.members new.parts.members _ c.still_step-done.result did.entered in
    let closed = closed-stepped (g.B.Bank.given new.parts.bank) c.args.who old new c.check_array.ensures.placed did.stepped.same.array.shape some c.still_step-done.result did.memory did.entered did.caused in
    kept-at-rest g.B.Bank.given g.B.Bank.tape (length c.self.inside.window.items) new
    (rest-stepped g.B.Bank.given g.B.Bank.tape (length c.self.inside.window.items) old new did.given added did.stepped did.held (c.check_array.ensures.rest did.still) c.check_array.ensures.within closed was)

pub returns-clause-flushed : goal.returns-clause-flushed
returns-clause-flushed g c = rw (← c.self.view_is) c.still_step-done.ensures.flushed

pub returns-clause-good : goal.returns-clause-good
returns-clause-good g c = rw (← c.self.view_is) c.still_step-done.ensures.good

pub returns-clause-whole : goal.returns-clause-whole
returns-clause-whole g c = rw (← c.self.view_is) c.still_step-done.ensures.whole

pub returns-clause-closable : goal.returns-clause-closable
returns-clause-closable g c = c.still_step-done.ensures.closable

pub returns-clause-ends : goal.returns-clause-ends
returns-clause-ends g c =
    let did = c.still_step-done.ensures in
    own-refused c.self.inside.array c.still_step-done.new.still c.still_step-done.result did.still did.memory did.work did.caused

pub still_step-done-requires-clause-open : goal.still_step-done-requires-clause-open
still_step-done-requires-clause-open g c = subst (λ p. IsCallGoing p.parts.entries c.args.who) (sym c.self.view_is) c.requires.open

pub still_step-done-requires-clause-pending : goal.still_step-done-requires-clause-pending
still_step-done-requires-clause-pending g c = subst (λ p. 0 < left_of p.parts.work p.parts.members) (sym c.self.view_is) c.requires.pending

pub still_step-done-requires-clause-room : goal.still_step-done-requires-clause-room
still_step-done-requires-clause-room g c = subst (λ p. 1 ≤ p.parts.steps) (sym c.self.view_is) c.requires.room

pub returns-clause-entered : goal.returns-clause-entered
returns-clause-entered g c = rw (← c.self.view_is) c.still_step-done.ensures.entered

pub returns-clause-memory : goal.returns-clause-memory
returns-clause-memory g c = c.still_step-done.ensures.memory

pub returns-clause-open : goal.returns-clause-open
returns-clause-open g c = c.still_step-done.ensures.open

pub returns-clause-room : goal.returns-clause-room
returns-clause-room g c = rw (← c.self.view_is) c.still_step-done.ensures.room

pub returns-clause-left : goal.returns-clause-left
returns-clause-left g c = rw (← c.self.view_is) c.still_step-done.ensures.left

pub returns-clause-stays : goal.returns-clause-stays
returns-clause-stays g c = rw (← c.self.view_is) c.still_step-done.ensures.stays

pub returns-clause-list : goal.returns-clause-list
returns-clause-list g c = rw (← c.self.view_is) c.still_step-done.ensures.list

pub returns-clause-caused : goal.returns-clause-caused
returns-clause-caused g c = rw (← c.self.view_is) c.still_step-done.ensures.caused

pub returns-clause-clean : goal.returns-clause-clean
returns-clause-clean g c = rw (← c.self.view_is) c.still_step-done.ensures.clean

pub returns-clause-taken : goal.returns-clause-taken
returns-clause-taken g c = rw (← c.self.view_is) c.still_step-done.ensures.taken

pub returns-clause-stepped : goal.returns-clause-stepped
returns-clause-stepped g c = rw (← c.self.view_is) c.still_step-done.ensures.stepped

pub returns-clause-held : goal.returns-clause-held
returns-clause-held g c = rw (← c.self.view_is) c.still_step-done.ensures.held

pub returns-clause-course : goal.returns-clause-course
returns-clause-course g c =
    let still = ap (λ p. is_reshaping p.parts.members.newest) c.self.view_is ∙ c.requires.still in
    let was = c.self.invariant.rests still in
    rw (← c.self.view_is) ((c.check_array.ensures.rest c.still_step-done.ensures.still).course ∙ sym was.now.course)

pub returns-clause-given : goal.returns-clause-given
returns-clause-given g c = rw (← c.self.view_is) c.still_step-done.ensures.given

pub still_step-done-requires-clause-still : goal.still_step-done-requires-clause-still
still_step-done-requires-clause-still g c = ap (λ p. is_reshaping p.parts.members.newest) c.self.view_is ∙ c.requires.still
