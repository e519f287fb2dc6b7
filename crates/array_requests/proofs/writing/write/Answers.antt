use Rattle.std.proofs.Common.{◌≡◌, ℕ, ◌/◌, Option, length, refl, sym, ◌∙◌, subst}
use Rattle.std.specs.Prelude.{IsSome}
use Rattle.history_append.specs.history_the_Event_TheVariants.{Wrote}
use Rattle.history_append.specs.history_the_Request_TheVariants.{Write as AsksWrite}
use Rattle.array_open.proofs.array_fixed_laws_PlansKept.{add-answered}
use Rattle.history_append.specs.history_Flat.{next_number}
use Rattle.std.proofs.lemmas.Bool.{true≢false}
use Rattle.array_open.proofs.array_Entered.{add-written}
use Rattle.array_open.proofs.array_Both.{kept-at-rest, kept-in-reshape}
use Rattle.array_open.proofs.array_Kept.{rest-called, reshape-called}
use Rattle.array_call_specs.specs.raid_types_Sectors.{sectors_of}
use Rattle.array_open.specs.sb_specs_Reading.{list_length}
use Rattle.array_open.proofs.array_Chosen.{write-still, write-moving, write-replied, no-backup_fault, on-ok, on-err, err-so}
use Rattle.array_requests.proofs.writing.write.Goals as goal

pub returns-then-is_reshaping-clause-answered : goal.returns-then-is_reshaping-clause-answered
returns-then-is_reshaping-clause-answered g c = rw (← c.array.view_is) c.write-done.ensures.answered

pub returns-clause-answered : goal.returns-clause-answered
returns-clause-answered g c =
    rw (← c.array.view_is)
    (write-replied _ _ _ _ c.array.inside.array.parts.members c.write-done-2.new.still.parts.members _ c.args.at (sectors_of c.args.from.now) c.args.who _ _ c.write-done-2.result c.write-done-2.ensures.answered c.write-done-2.ensures.caused)

pub returns-then-is_reshaping-clause-entered : goal.returns-then-is_reshaping-clause-entered
returns-then-is_reshaping-clause-entered g c = rw (← c.array.view_is) (λ active. c.write-done.ensures.entered)

pub returns-clause-entered : goal.returns-clause-entered
returns-clause-entered g c =
    let still = sym c.is_reshaping.ensures ∙ c.if-is_reshaping.false in
    let rest = c.array.invariant.rests still in
    rw (← c.array.view_is) (λ active. absurd (true≢false (sym active ∙ rest.now.still)))

pub returns-then-is_reshaping-clause-called : goal.returns-then-is_reshaping-clause-called
returns-then-is_reshaping-clause-called g c = rw (← c.array.view_is) c.write-done.ensures.called

pub returns-clause-called : goal.returns-clause-called
returns-clause-called g c = rw (← c.array.view_is) c.write-done-2.ensures.called

pub returns-then-is_reshaping-clause-caused : goal.returns-then-is_reshaping-clause-caused
returns-then-is_reshaping-clause-caused g c =
    let reshaping = sym c.is_reshaping.ensures ∙ c.if-is_reshaping.true in
    let active = c.array.invariant.moves reshaping in
    rw (← c.array.view_is) (write-moving c.array.inside.array c.args.at (length c.args.from.now / 512) c.array.inside.array.parts.members c.write-done.new.moving.parts.members c.write-done.result active.active c.write-done.ensures.caused)

pub returns-clause-caused : goal.returns-clause-caused
returns-clause-caused g c =
    let still = sym c.is_reshaping.ensures ∙ c.if-is_reshaping.false in
    let rest = c.array.invariant.rests still in
    rw (← c.array.view_is) (write-still c.array.inside.array c.args.at (length c.args.from.now / 512) c.array.inside.array.parts.members c.write-done-2.new.still.parts.members c.write-done-2.result rest.now.still c.write-done-2.ensures.caused)

pub returns-then-is_reshaping-clause-backed : goal.returns-then-is_reshaping-clause-backed
returns-then-is_reshaping-clause-backed g c = rw (← c.array.view_is) (λ active. subst (λ (o : Option ℕ). IsSome o) c.write-done.ensures.called.same.array.backup (c.check_array.ensures.backed c.write-done.ensures.active))

pub returns-clause-backed : goal.returns-clause-backed
returns-clause-backed g c =
    let still = sym c.is_reshaping.ensures ∙ c.if-is_reshaping.false in
    let rest = c.array.invariant.rests still in
    rw (← c.array.view_is) (λ active. absurd (true≢false (sym active ∙ rest.now.still)))

pub returns-then-is_reshaping-clause-backup : goal.returns-then-is_reshaping-clause-backup
returns-then-is_reshaping-clause-backup g c = rw (← c.array.view_is) c.write-done.ensures.backup

pub returns-clause-backup : goal.returns-clause-backup
returns-clause-backup g c = rw (← c.array.view_is) (λ fault. no-backup_fault _ _ _ _ c.array.inside.array.parts.members c.write-done-2.new.still.parts.members c.write-done-2.result fault c.write-done-2.ensures.caused)

pub returns-then-is_reshaping-clause-barred : goal.returns-then-is_reshaping-clause-barred
returns-then-is_reshaping-clause-barred g c =
    let reshaping = sym c.is_reshaping.ensures ∙ c.if-is_reshaping.true in
    let was = c.array.invariant.moves reshaping in
    rw (← c.array.view_is) (λ fault. was.active)

pub returns-clause-barred : goal.returns-clause-barred
returns-clause-barred g c = (λ fault. no-backup_fault _ _ _ _ c.array.inside.array.parts.members c.write-done-2.new.still.parts.members c.write-done-2.result fault c.write-done-2.ensures.caused)

pub returns-then-is_reshaping-clause-closed : goal.returns-then-is_reshaping-clause-closed
returns-then-is_reshaping-clause-closed g c = rw (← c.array.view_is) c.write-done.ensures.closed

pub returns-clause-closed : goal.returns-clause-closed
returns-clause-closed g c =
    let still = sym c.is_reshaping.ensures ∙ c.if-is_reshaping.false in
    let rest = c.array.invariant.rests still in
    rw (← c.array.view_is, rest.now.course) (on-ok c.write-done-2.result (λ touches. absurd (cc (touches.3))))

pub returns-then-is_reshaping-clause-untouched : goal.returns-then-is_reshaping-clause-untouched
returns-then-is_reshaping-clause-untouched g c =
    let reshaping = sym c.is_reshaping.ensures ∙ c.if-is_reshaping.true in
    let active = c.array.invariant.moves reshaping in
    let moving = active.active in
    rw (← c.array.view_is) (on-err c.write-done.result (λ still. absurd (true≢false (sym moving ∙ still))))

pub returns-clause-untouched : goal.returns-clause-untouched
returns-clause-untouched g c = rw (← c.array.view_is) (err-so c.write-done-2.result (λ untouched still. untouched) c.write-done-2.ensures.untouched)

pub returns-then-is_reshaping-clause-active : goal.returns-then-is_reshaping-clause-active
returns-then-is_reshaping-clause-active g c =
    let reshaping = sym c.is_reshaping.ensures ∙ c.if-is_reshaping.true in
    let was = c.array.invariant.moves reshaping in
    rw (← c.array.view_is) (c.write-done.ensures.active ∙ sym was.active)

pub returns-clause-active : goal.returns-clause-active
returns-clause-active g c =
    let still = sym c.is_reshaping.ensures ∙ c.if-is_reshaping.false in
    let was = c.array.invariant.rests still in
    rw (← c.array.view_is) (c.write-done-2.ensures.still ∙ sym was.now.still)

pub invariant_of-array : goal.invariant_of-array
invariant_of-array g c =
    let reshaping = sym c.is_reshaping.ensures ∙ c.if-is_reshaping.true in
    let was = c.array.invariant.moves reshaping in
    let old = c.array.inside.array in
    let new = c.write-done.new.moving in
    let did = c.write-done.ensures in
    let added = add-written c.args.who (list_length old.parts.members.newest) c.args.at (sectors_of c.args.from.now) c.write-done.result did.answered in
    kept-in-reshape g.B.Bank.given g.B.Bank.tape (length c.array.inside.window.items) new
    (reshape-called g.B.Bank.given g.B.Bank.tape (length c.array.inside.window.items) old new did.given added did.called c.write-done.ensures.active c.check_array.ensures.within was)

pub invariant_of-array-2 : goal.invariant_of-array-2
invariant_of-array-2 g c =
    let still = sym c.is_reshaping.ensures ∙ c.if-is_reshaping.false in
    let was = c.array.invariant.rests still in
    let old = c.array.inside.array in
    let new = c.write-done-2.new.still in
    let did = c.write-done-2.ensures in
    let added = add-answered c.args.who (list_length old.parts.members.newest) (AsksWrite c.args.at (sectors_of c.args.from.now)) (Wrote c.args.at (sectors_of c.args.from.now)) c.write-done-2.result did.answered refl in
    kept-at-rest g.B.Bank.given g.B.Bank.tape (length c.array.inside.window.items) new
    (rest-called g.B.Bank.given g.B.Bank.tape (length c.array.inside.window.items) old new did.given added did.called did.whole (c.check_array-2.ensures.rest c.write-done-2.ensures.still) c.check_array-2.ensures.within was)

pub write-done-requires-clause-next : goal.write-done-requires-clause-next
write-done-requires-clause-next g c = subst (λ p. c.args.who.number ≡ next_number c.args.who.caller p.parts.entries) (sym c.array.view_is) c.requires.next

pub write-done-requires-clause-active : goal.write-done-requires-clause-active
write-done-requires-clause-active g c = sym c.is_reshaping.ensures ∙ c.if-is_reshaping.true

pub write-done-requires-2-clause-next : goal.write-done-requires-2-clause-next
write-done-requires-2-clause-next g c = subst (λ p. c.args.who.number ≡ next_number c.args.who.caller p.parts.entries) (sym c.array.view_is) c.requires.next

pub write-done-requires-2-clause-still : goal.write-done-requires-2-clause-still
write-done-requires-2-clause-still g c = sym c.is_reshaping.ensures ∙ c.if-is_reshaping.false

pub returns-then-is_reshaping-clause-unchanged : goal.returns-then-is_reshaping-clause-unchanged
returns-then-is_reshaping-clause-unchanged g c = rw (← c.array.view_is) c.write-done.ensures.unchanged

pub returns-clause-unchanged : goal.returns-clause-unchanged
returns-clause-unchanged g c = rw (← c.array.view_is) c.write-done-2.ensures.unchanged

pub returns-then-is_reshaping-clause-dirty : goal.returns-then-is_reshaping-clause-dirty
returns-then-is_reshaping-clause-dirty g c = c.write-done.ensures.dirty

pub returns-clause-dirty : goal.returns-clause-dirty
returns-clause-dirty g c = c.write-done-2.ensures.dirty

pub returns-then-is_reshaping-clause-first : goal.returns-then-is_reshaping-clause-first
returns-then-is_reshaping-clause-first g c =
    let reshaping = sym c.is_reshaping.ensures ∙ c.if-is_reshaping.true in
    let was = c.array.invariant.moves reshaping in
    rw (← c.array.view_is) (λ still. absurd (true≢false (sym was.active ∙ still)))

pub returns-clause-first : goal.returns-clause-first
returns-clause-first g c = rw (← c.array.view_is) (λ still. c.write-done-2.ensures.first)

pub returns-then-is_reshaping-clause-failed : goal.returns-then-is_reshaping-clause-failed
returns-then-is_reshaping-clause-failed g c = rw (← c.array.view_is) c.write-done.ensures.failed

pub returns-clause-failed : goal.returns-clause-failed
returns-clause-failed g c = rw (← c.array.view_is) c.write-done-2.ensures.failed

pub returns-then-is_reshaping-clause-course : goal.returns-then-is_reshaping-clause-course
returns-then-is_reshaping-clause-course g c = rw (← c.array.view_is) c.write-done.ensures.course

pub returns-clause-course : goal.returns-clause-course
returns-clause-course g c =
    let still = sym c.is_reshaping.ensures ∙ c.if-is_reshaping.false in
    let was = c.array.invariant.rests still in
    rw (← c.array.view_is) (λ apart. (c.check_array-2.ensures.rest c.write-done-2.ensures.still).course ∙ sym was.now.course)

pub returns-then-is_reshaping-clause-given : goal.returns-then-is_reshaping-clause-given
returns-then-is_reshaping-clause-given g c = rw (← c.array.view_is) c.write-done.ensures.given

pub returns-clause-given : goal.returns-clause-given
returns-clause-given g c = rw (← c.array.view_is) c.write-done-2.ensures.given

pub returns-then-is_reshaping-clause-answered_still : goal.returns-then-is_reshaping-clause-answered_still
returns-then-is_reshaping-clause-answered_still g c =
    let reshaping = sym c.is_reshaping.ensures ∙ c.if-is_reshaping.true in
    let was = c.array.invariant.moves reshaping in
    rw (← c.array.view_is) (λ still. absurd (true≢false (sym was.active ∙ still)))

pub returns-clause-answered_still : goal.returns-clause-answered_still
returns-clause-answered_still g c = rw (← c.array.view_is) (λ still. c.write-done-2.ensures.answered)
