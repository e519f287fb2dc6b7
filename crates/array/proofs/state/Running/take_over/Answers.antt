use Rattle.std.proofs.Common.{◌≡◌, ◌≤◌, List, length, sym, ◌∙◌, ap, subst}
use Rattle.array_grow.specs.raid_types_the_Phase.{Phase}
use Rattle.array_takeover.specs.sb_specs_Reading.{is_reshaping}
use Rattle.array_takeover.specs.reshape_request_Left.{phases_of}
use Rattle.array_takeover.specs.TakenOver.{IsTakeoverNext}
use Rattle.array_grow.specs.history_invariant_Recorded.{IsCallGoing}
use Rattle.array_grow.specs.array_members_Status.{left_of}
use Rattle.array.proofs.Ended.{take-refused, closable-taken}
use Rattle.array.proofs.Both.{kept-at-rest}
use Rattle.array.proofs.Kept.{first-taken, first-of, rest-taken, rest-untaken}
use Rattle.array.proofs.state.Running.take_over.Goals as goal

pub phases_behind-behind-requires : goal.phases_behind-behind-requires
phases_behind-behind-requires g c =
    let next = subst (λ p. (behind : List Phase) × IsTakeoverNext (phases_of p.ahead) c.args.to behind) (sym c.self.view_is) c.requires.next in
    record { some = first-of c.args.to next.1 }

pub take_over-requires-clause-next : goal.take_over-requires-clause-next
take_over-requires-clause-next g c =
    let next = subst (λ p. (behind : List Phase) × IsTakeoverNext (phases_of p.ahead) c.args.to behind) (sym c.self.view_is) c.requires.next in
    (first-taken c.args.to next.1 c.phases_behind-behind.ensures.behind.1)

pub take_over-requires-clause-plans : goal.take_over-requires-clause-plans
take_over-requires-clause-plans g c = let still = ap (λ p. is_reshaping p.parts.members.newest) c.self.view_is ∙ c.requires.still in
    let was = c.self.invariant.rests still in was.plans

pub invariant_of-result : goal.invariant_of-result
invariant_of-result g c =
    let still = ap (λ p. is_reshaping p.parts.members.newest) c.self.view_is ∙ c.requires.still in
    let was = c.self.invariant.rests still in
    let old = c.self.inside.array in
    let new = c.in-Ok.array in
    let next = subst (λ p. (behind : List Phase) × IsTakeoverNext (phases_of p.ahead) c.args.to behind) (sym c.self.view_is) c.requires.next in
    let did = c.in-Ok.ensures.taken in
    let given_is = c.in-Ok.ensures.given in
    kept-at-rest g.B.Bank.given g.B.Bank.tape (length c.self.inside.window.items) new
    (rest-taken g.B.Bank.given g.B.Bank.tape (length c.self.inside.window.items) c.args.to old new given_is (first-taken c.args.to next.1 c.phases_behind-behind.ensures.behind.1) did (c.check_array.ensures.rest c.in-Ok.ensures.still) c.check_array.ensures.within was)

pub invariant_of-running : goal.invariant_of-running
invariant_of-running g c =
    let still = ap (λ p. is_reshaping p.parts.members.newest) c.self.view_is ∙ c.requires.still in
    let was = c.self.invariant.rests still in
    let back = c.in-Err.ensures.refused in
    kept-at-rest g.B.Bank.given g.B.Bank.tape (length c.self.inside.window.items) c.in-Err.array
    (rest-untaken g.B.Bank.given g.B.Bank.tape (length c.self.inside.window.items) c.self.inside.array c.in-Err.array back (c.check_array-in-Err.ensures.rest c.in-Err.ensures.left_still) c.check_array-in-Err.ensures.within was)

pub returns-in-Ok-clause-taken : goal.returns-in-Ok-clause-taken
returns-in-Ok-clause-taken g c =
    let next = subst (λ p. (behind : List Phase) × IsTakeoverNext (phases_of p.ahead) c.args.to behind) (sym c.self.view_is) c.requires.next in
    let did = c.in-Ok.ensures.taken in
    rw (← c.self.view_is) (c.phases_behind-behind.result, first-taken c.args.to next.1 c.phases_behind-behind.ensures.behind.1, did)

pub returns-in-Ok-clause-closable : goal.returns-in-Ok-clause-closable
returns-in-Ok-clause-closable g c = (closable-taken c.in-Ok.array c.in-Ok.ensures.taken.entered)

pub returns-in-Ok-clause-given : goal.returns-in-Ok-clause-given
returns-in-Ok-clause-given g c = rw (← c.self.view_is) (c.in-Ok.ensures.given)

pub returns-in-Err-clause-refused : goal.returns-in-Err-clause-refused
returns-in-Err-clause-refused g c = rw (← c.self.view_is) (c.in-Err.ensures.refused)

pub returns-in-Err-clause-caused : goal.returns-in-Err-clause-caused
returns-in-Err-clause-caused g c = rw (← c.self.view_is) (c.in-Err.ensures.caused)

pub returns-in-Err-clause-ends : goal.returns-in-Err-clause-ends
returns-in-Err-clause-ends g c =
    let back = c.in-Err.ensures.refused in
    let caused = c.in-Err.ensures.caused in
    let next = subst (λ p. (behind : List Phase) × IsTakeoverNext (phases_of p.ahead) c.args.to behind) (sym c.self.view_is) c.requires.next in
    let done = subst (λ p. left_of p.parts.work p.parts.members ≡ 0) (sym c.self.view_is) c.requires.done in
    (take-refused c.args.to next.0 c.self.inside.array c.in-Err.array c.in-Err.refusal c.in-Err.ensures.left_still back.members back.work done back.ahead next.1 caused)

pub take_over-requires-clause-open : goal.take_over-requires-clause-open
take_over-requires-clause-open g c = (subst (λ p. IsCallGoing p.parts.entries c.args.who) (sym c.self.view_is) c.requires.open)

pub take_over-requires-clause-done : goal.take_over-requires-clause-done
take_over-requires-clause-done g c = (subst (λ p. left_of p.parts.work p.parts.members ≡ 0) (sym c.self.view_is) c.requires.done)

pub take_over-requires-clause-room : goal.take_over-requires-clause-room
take_over-requires-clause-room g c = (subst (λ p. 1 ≤ p.parts.steps) (sym c.self.view_is) c.requires.room)

pub take_over-requires-clause-still : goal.take_over-requires-clause-still
take_over-requires-clause-still g c = ap (λ p. is_reshaping p.parts.members.newest) c.self.view_is ∙ c.requires.still
