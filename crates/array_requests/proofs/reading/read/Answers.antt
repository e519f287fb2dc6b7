use Rattle.std.proofs.Common.{◌≡◌, ◌/◌, length, refl, sym, ◌∙◌, subst}
use Rattle.array_call_specs.specs.raid_types_Sectors.{sectors_of}
use Rattle.array_open.specs.sb_specs_Reading.{list_length}
use Rattle.history_append.specs.history_the_Event_TheVariants.{Read}
use Rattle.history_append.specs.history_the_Request_TheVariants.{Read as AsksRead}
use Rattle.array_open.proofs.array_fixed_laws_PlansKept.{add-answered}
use Rattle.history_append.specs.history_Flat.{next_number}
use Rattle.std.proofs.lemmas.Bool.{true≢false}
use Rattle.array_open.proofs.array_Both.{kept-at-rest, kept-in-reshape}
use Rattle.array_open.proofs.array_Kept.{rest-called, reshape-called}
use Rattle.array_open.proofs.array_Chosen.{read-still, read-moving}
use Rattle.array_requests.proofs.reading.read.Goals as goal

pub returns-then-is_reshaping-clause-holds : goal.returns-then-is_reshaping-clause-holds
returns-then-is_reshaping-clause-holds g c =
    let reshaping = sym c.is_reshaping.ensures ∙ c.if-is_reshaping.true in
    let active = c.array.invariant.moves reshaping in
    rw (← c.array.view_is, active.active) c.read-done.ensures.holds

pub returns-clause-holds : goal.returns-clause-holds
returns-clause-holds g c =
    let still = sym c.is_reshaping.ensures ∙ c.if-is_reshaping.false in
    let rest = c.array.invariant.rests still in
    rw (← c.array.view_is, rest.now.still) c.read-done-2.ensures.holds

pub returns-then-is_reshaping-clause-called : goal.returns-then-is_reshaping-clause-called
returns-then-is_reshaping-clause-called g c = rw (← c.array.view_is) c.read-done.ensures.called

pub returns-clause-called : goal.returns-clause-called
returns-clause-called g c = rw (← c.array.view_is) c.read-done-2.ensures.called

pub returns-then-is_reshaping-clause-caused : goal.returns-then-is_reshaping-clause-caused
returns-then-is_reshaping-clause-caused g c =
    let reshaping = sym c.is_reshaping.ensures ∙ c.if-is_reshaping.true in
    let active = c.array.invariant.moves reshaping in
    rw (← c.array.view_is) (read-moving c.array.inside.array c.args.at (length c.args.into.now / 512) c.array.inside.array.parts.members c.read-done.new.moving.parts.members c.read-done.result active.active c.read-done.ensures.caused)

pub returns-clause-caused : goal.returns-clause-caused
returns-clause-caused g c =
    let still = sym c.is_reshaping.ensures ∙ c.if-is_reshaping.false in
    let rest = c.array.invariant.rests still in
    rw (← c.array.view_is) (read-still c.array.inside.array c.args.at (length c.args.into.now / 512) c.array.inside.array.parts.members c.read-done-2.new.still.parts.members c.read-done-2.result rest.now.still c.read-done-2.ensures.caused)

pub returns-then-is_reshaping-clause-active : goal.returns-then-is_reshaping-clause-active
returns-then-is_reshaping-clause-active g c =
    let reshaping = sym c.is_reshaping.ensures ∙ c.if-is_reshaping.true in
    let was = c.array.invariant.moves reshaping in
    rw (← c.array.view_is) (c.read-done.ensures.active ∙ sym was.active)

pub returns-clause-active : goal.returns-clause-active
returns-clause-active g c =
    let still = sym c.is_reshaping.ensures ∙ c.if-is_reshaping.false in
    let was = c.array.invariant.rests still in
    rw (← c.array.view_is) (c.read-done-2.ensures.still ∙ sym was.now.still)

pub invariant_of-array : goal.invariant_of-array
invariant_of-array g c =
    let reshaping = sym c.is_reshaping.ensures ∙ c.if-is_reshaping.true in
    let was = c.array.invariant.moves reshaping in
    let old = c.array.inside.array in
    let new = c.read-done.new.moving in
    let did = c.read-done.ensures in
    let added = add-answered c.args.who (list_length old.parts.members.newest) (AsksRead c.args.at (length c.args.into.now / 512)) (Read c.args.at (sectors_of c.read-done.new.into)) c.read-done.result did.answered refl in
    kept-in-reshape g.B.Bank.given g.B.Bank.tape (length c.array.inside.window.items) new
    (reshape-called g.B.Bank.given g.B.Bank.tape (length c.array.inside.window.items) old new did.given added did.called c.read-done.ensures.active c.check_array.ensures.within was)

pub invariant_of-array-2 : goal.invariant_of-array-2
invariant_of-array-2 g c =
    let still = sym c.is_reshaping.ensures ∙ c.if-is_reshaping.false in
    let was = c.array.invariant.rests still in
    let old = c.array.inside.array in
    let new = c.read-done-2.new.still in
    let did = c.read-done-2.ensures in
    let added = add-answered c.args.who (list_length old.parts.members.newest) (AsksRead c.args.at (length c.args.into.now / 512)) (Read c.args.at (sectors_of c.read-done-2.new.into)) c.read-done-2.result did.answered refl in
    kept-at-rest g.B.Bank.given g.B.Bank.tape (length c.array.inside.window.items) new
    (rest-called g.B.Bank.given g.B.Bank.tape (length c.array.inside.window.items) old new did.given added did.called did.whole (c.check_array-2.ensures.rest c.read-done-2.ensures.still) c.check_array-2.ensures.within was)

pub read-done-requires-clause-next : goal.read-done-requires-clause-next
read-done-requires-clause-next g c = subst (λ p. c.args.who.number ≡ next_number c.args.who.caller p.parts.entries) (sym c.array.view_is) c.requires.next

pub read-done-requires-clause-active : goal.read-done-requires-clause-active
read-done-requires-clause-active g c = sym c.is_reshaping.ensures ∙ c.if-is_reshaping.true

pub read-done-requires-2-clause-next : goal.read-done-requires-2-clause-next
read-done-requires-2-clause-next g c = subst (λ p. c.args.who.number ≡ next_number c.args.who.caller p.parts.entries) (sym c.array.view_is) c.requires.next

pub read-done-requires-2-clause-still : goal.read-done-requires-2-clause-still
read-done-requires-2-clause-still g c = sym c.is_reshaping.ensures ∙ c.if-is_reshaping.false

pub returns-then-is_reshaping-clause-answered : goal.returns-then-is_reshaping-clause-answered
returns-then-is_reshaping-clause-answered g c = rw (← c.array.view_is) c.read-done.ensures.answered

pub returns-clause-answered : goal.returns-clause-answered
returns-clause-answered g c = rw (← c.array.view_is) c.read-done-2.ensures.answered

pub returns-then-is_reshaping-clause-unread : goal.returns-then-is_reshaping-clause-unread
returns-then-is_reshaping-clause-unread g c = c.read-done.ensures.unread

pub returns-clause-unread : goal.returns-clause-unread
returns-clause-unread g c = c.read-done-2.ensures.unread

pub returns-then-is_reshaping-clause-unchanged : goal.returns-then-is_reshaping-clause-unchanged
returns-then-is_reshaping-clause-unchanged g c = rw (← c.array.view_is) c.read-done.ensures.unchanged

pub returns-clause-unchanged : goal.returns-clause-unchanged
returns-clause-unchanged g c = rw (← c.array.view_is) c.read-done-2.ensures.unchanged

pub returns-then-is_reshaping-clause-tape : goal.returns-then-is_reshaping-clause-tape
returns-then-is_reshaping-clause-tape g c =
    let reshaping = sym c.is_reshaping.ensures ∙ c.if-is_reshaping.true in
    let was = c.array.invariant.moves reshaping in
    rw (← c.array.view_is) (λ still. absurd (true≢false (sym was.active ∙ still)))

pub returns-clause-tape : goal.returns-clause-tape
returns-clause-tape g c = rw (← c.array.view_is) (λ still. c.read-done-2.ensures.tape)

pub returns-then-is_reshaping-clause-others : goal.returns-then-is_reshaping-clause-others
returns-then-is_reshaping-clause-others g c = rw (← c.array.view_is) c.read-done.ensures.others

pub returns-clause-others : goal.returns-clause-others
returns-clause-others g c = rw (← c.array.view_is) c.read-done-2.ensures.others

pub returns-then-is_reshaping-clause-failed : goal.returns-then-is_reshaping-clause-failed
returns-then-is_reshaping-clause-failed g c = rw (← c.array.view_is) c.read-done.ensures.failed

pub returns-clause-failed : goal.returns-clause-failed
returns-clause-failed g c = rw (← c.array.view_is) c.read-done-2.ensures.failed

pub returns-then-is_reshaping-clause-course : goal.returns-then-is_reshaping-clause-course
returns-then-is_reshaping-clause-course g c = rw (← c.array.view_is) c.read-done.ensures.course

pub returns-clause-course : goal.returns-clause-course
returns-clause-course g c =
    let still = sym c.is_reshaping.ensures ∙ c.if-is_reshaping.false in
    let was = c.array.invariant.rests still in
    rw (← c.array.view_is) ((c.check_array-2.ensures.rest c.read-done-2.ensures.still).course ∙ sym was.now.course)

pub returns-then-is_reshaping-clause-clean : goal.returns-then-is_reshaping-clause-clean
returns-then-is_reshaping-clause-clean g c = rw (← c.array.view_is) c.read-done.ensures.clean

pub returns-clause-clean : goal.returns-clause-clean
returns-clause-clean g c = rw (← c.array.view_is) c.read-done-2.ensures.clean

pub returns-then-is_reshaping-clause-first : goal.returns-then-is_reshaping-clause-first
returns-then-is_reshaping-clause-first g c =
    let reshaping = sym c.is_reshaping.ensures ∙ c.if-is_reshaping.true in
    rw (← c.array.view_is) (λ still. absurd (true≢false (sym reshaping ∙ still)))

pub returns-clause-first : goal.returns-clause-first
returns-clause-first g c = rw (← c.array.view_is) (λ still. c.read-done-2.ensures.first)

pub returns-then-is_reshaping-clause-given : goal.returns-then-is_reshaping-clause-given
returns-then-is_reshaping-clause-given g c = rw (← c.array.view_is) c.read-done.ensures.given

pub returns-clause-given : goal.returns-clause-given
returns-clause-given g c = rw (← c.array.view_is) c.read-done-2.ensures.given
