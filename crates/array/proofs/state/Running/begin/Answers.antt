use Rattle.std.proofs.Common.{◌≡◌, ◌≤◌, ◌∷◌, List, length, refl, sym, ◌∙◌, ap, subst}
use Rattle.std.specs.Prelude.{IsSome}
use Rattle.array_grow.specs.raid_types_the_Phase.{Phase}
use Rattle.array_grow.specs.raid_types_the_Phase_TheVariants.{Reshape}
use Rattle.array_takeover.specs.sb_specs_Reading.{is_reshaping}
use Rattle.array_takeover.specs.reshape_request_Left.{phases_of}
use Rattle.array_grow.specs.array_transition_Begun.{HasKeptLength}
use Rattle.array_grow.specs.array_members_Status.{left_of}
use Rattle.array.proofs.Ended.{begin-refused}
use Rattle.array.proofs.Both.{kept-at-rest, kept-in-reshape}
use Rattle.array.proofs.Kept.{first-same, backup-serves, reshape-begun, rest-back}
use Rattle.array.proofs.state.Running.begin.Goals as goal

pub phases_behind-behind-requires : goal.phases_behind-behind-requires
phases_behind-behind-requires g c =
    let next = subst (λ p. (behind : List Phase) × (phases_of p.ahead ≡ Reshape c.args.to ∷ behind)) (sym c.self.view_is) c.requires.next in
    record { some = (Reshape c.args.to, next.0, next.1) }

pub begin_reshape-requires-clause-next : goal.begin_reshape-requires-clause-next
begin_reshape-requires-clause-next g c =
    let next = subst (λ p. (behind : List Phase) × (phases_of p.ahead ≡ Reshape c.args.to ∷ behind)) (sym c.self.view_is) c.requires.next in
    (first-same next.1 c.phases_behind-behind.ensures.behind.1)

pub begin_reshape-requires-clause-backed : goal.begin_reshape-requires-clause-backed
begin_reshape-requires-clause-backed g c =
    let still = ap (λ p. is_reshaping p.parts.members.newest) c.self.view_is ∙ c.requires.still in
    let was = c.self.invariant.rests still in
    let next = subst (λ p. (behind : List Phase) × (phases_of p.ahead ≡ Reshape c.args.to ∷ behind)) (sym c.self.view_is) c.requires.next in
    let can = backup-serves c.self.inside.array c.args.to next.0 next.1 was in
    (can.0, can.1, can.2)

pub begin_reshape-requires-clause-wide : goal.begin_reshape-requires-clause-wide
begin_reshape-requires-clause-wide g c =
    let still = ap (λ p. is_reshaping p.parts.members.newest) c.self.view_is ∙ c.requires.still in
    let was = c.self.invariant.rests still in
    let next = subst (λ p. (behind : List Phase) × (phases_of p.ahead ≡ Reshape c.args.to ∷ behind)) (sym c.self.view_is) c.requires.next in
    ((backup-serves c.self.inside.array c.args.to next.0 next.1 was).3)

pub invariant_of-result : goal.invariant_of-result
invariant_of-result g c =
    let still = ap (λ p. is_reshaping p.parts.members.newest) c.self.view_is ∙ c.requires.still in
    let was = c.self.invariant.rests still in
    let old = c.self.inside.array in
    let new = c.in-Ok.array in
    let next = subst (λ p. (behind : List Phase) × (phases_of p.ahead ≡ Reshape c.args.to ∷ behind)) (sym c.self.view_is) c.requires.next in
    let did = c.in-Ok.ensures.begun in
    let given_is = c.in-Ok.ensures.given in
    kept-in-reshape g.B.Bank.given g.B.Bank.tape (length c.new-window.result.items) new
    (reshape-begun g.B.Bank.given g.B.Bank.tape (length c.self.inside.window.items) c.args.to old new given_is (first-same next.1 c.phases_behind-behind.ensures.behind.1) did c.check_array.ensures.within was)

pub invariant_of-running : goal.invariant_of-running
invariant_of-running g c =
    let still = ap (λ p. is_reshaping p.parts.members.newest) c.self.view_is ∙ c.requires.still in
    let was = c.self.invariant.rests still in
    let old = c.self.inside.array in
    let new = c.in-Err.array in
    let next = subst (λ p. (behind : List Phase) × (phases_of p.ahead ≡ Reshape c.args.to ∷ behind)) (sym c.self.view_is) c.requires.next in
    let back = c.in-Err.ensures.refused in
    let grows = c.in-Err.ensures.grows in
    let given_is = c.in-Err.ensures.left_given in
    rw c.in-Err.ensures.window
    (kept-at-rest g.B.Bank.given g.B.Bank.tape (length c.self.inside.window.items) new
    (rest-back g.B.Bank.given g.B.Bank.tape (length c.self.inside.window.items) c.args.to next.0 old new given_is next.1 grows back (c.check_array-in-Err.ensures.rest c.in-Err.ensures.left_still) c.check_array-in-Err.ensures.within was))

pub returns-in-Ok-clause-begun : goal.returns-in-Ok-clause-begun
returns-in-Ok-clause-begun g c =
    let next = subst (λ p. (behind : List Phase) × (phases_of p.ahead ≡ Reshape c.args.to ∷ behind)) (sym c.self.view_is) c.requires.next in
    let did = c.in-Ok.ensures.begun in
    rw (← c.self.view_is) (c.phases_behind-behind.result, first-same next.1 c.phases_behind-behind.ensures.behind.1, did)

pub returns-in-Ok-clause-given : goal.returns-in-Ok-clause-given
returns-in-Ok-clause-given g c = rw (← c.self.view_is) (c.in-Ok.ensures.given)

pub returns-in-Err-clause-refused : goal.returns-in-Err-clause-refused
returns-in-Err-clause-refused g c = rw (← c.self.view_is) (c.in-Err.ensures.refused)

pub returns-in-Err-clause-backed : goal.returns-in-Err-clause-backed
returns-in-Err-clause-backed g c =
    let still = ap (λ p. is_reshaping p.parts.members.newest) c.self.view_is ∙ c.requires.still in
    let was = c.self.invariant.rests still in
    let next = subst (λ p. (behind : List Phase) × (phases_of p.ahead ≡ Reshape c.args.to ∷ behind)) (sym c.self.view_is) c.requires.next in
    rw (← c.self.view_is) (subst IsSome (sym (backup-serves c.self.inside.array c.args.to next.0 next.1 was).1) refl)

pub returns-in-Err-clause-ends : goal.returns-in-Err-clause-ends
returns-in-Err-clause-ends g c =
    let back = c.in-Err.ensures.refused in
    let caused = c.in-Err.ensures.caused in
    let next = subst (λ p. (behind : List Phase) × (phases_of p.ahead ≡ Reshape c.args.to ∷ behind)) (sym c.self.view_is) c.requires.next in
    let done = subst (λ p. left_of p.parts.work p.parts.members ≡ 0) (sym c.self.view_is) c.requires.done in
    (begin-refused _ _ c.args.to next.0 c.self.inside.array c.in-Err.array c.in-Err.refusal c.in-Err.ensures.left_still back.members back.same.work done back.ahead next.1 caused)

pub returns-in-Err-clause-caused : goal.returns-in-Err-clause-caused
returns-in-Err-clause-caused g c = rw (← c.self.view_is) (c.in-Err.ensures.caused)

pub returns-in-Err-clause-grows : goal.returns-in-Err-clause-grows
returns-in-Err-clause-grows g c = rw (← c.self.view_is) (c.in-Err.ensures.grows)

pub returns-in-Err-clause-never_falls : goal.returns-in-Err-clause-never_falls
returns-in-Err-clause-never_falls g c = rw (← c.self.view_is) (c.in-Err.ensures.never_falls)

pub returns-in-Err-clause-left_given : goal.returns-in-Err-clause-left_given
returns-in-Err-clause-left_given g c = rw (← c.self.view_is) (c.in-Err.ensures.left_given)

pub begin_reshape-requires-clause-open : goal.begin_reshape-requires-clause-open
begin_reshape-requires-clause-open g c = (subst (λ p. HasKeptLength p.parts.entries c.args.who) (sym c.self.view_is) c.requires.open)

pub begin_reshape-requires-clause-done : goal.begin_reshape-requires-clause-done
begin_reshape-requires-clause-done g c = (subst (λ p. left_of p.parts.work p.parts.members ≡ 0) (sym c.self.view_is) c.requires.done)

pub begin_reshape-requires-clause-room : goal.begin_reshape-requires-clause-room
begin_reshape-requires-clause-room g c = (subst (λ p. 1 ≤ p.parts.steps) (sym c.self.view_is) c.requires.room)

pub begin_reshape-requires-clause-still : goal.begin_reshape-requires-clause-still
begin_reshape-requires-clause-still g c = ap (λ p. is_reshaping p.parts.members.newest) c.self.view_is ∙ c.requires.still
