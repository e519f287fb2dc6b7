use Rattle.std.proofs.Common.{◌≡◌, length, sym, ◌∙◌, subst}
use Rattle.array_call_specs.specs.raid_types_the_BusyKind_TheVariants.{Reshape}
use Rattle.array_call_specs.specs.raid_types_the_Refusal_TheVariants.{Busy}
use Rattle.array_open.specs.sb_specs_Reading.{list_length}
use Rattle.history_append.specs.history_the_Event_TheVariants.{Visible, Refused}
use Rattle.history_append.specs.history_Flat.{next_number}
use Rattle.array_open.specs.reshape_request_Left.{phases_of}
use Rattle.array_open.specs.array_specs_Parts.{visible_in}
use Rattle.array_open.specs.array_specs_Calls.{moving_world}
use Rattle.array_open.proofs.array_grow_Replied.{limit-replied, limit-went}
use Rattle.array_open.proofs.array_Both.{kept-at-rest, kept-in-reshape}
use Rattle.array_requests.proofs.LimitLaws.{judged-still, judged-moving, limited-moving, replied-still, replied-moving, as-before, rest-limited, reshape-limited}
use Rattle.array_requests.proofs.limiting.set_visible.Goals as goal

pub returns-then-is_reshaping-clause-fits : goal.returns-then-is_reshaping-clause-fits
returns-then-is_reshaping-clause-fits g c =
    let old = c.array.inside.array in
    let new = c.replace_with-done.new.dest in
    let result = c.replace_with-done.result in
    let did = c.replace_with-done.ensures in
    let world = moving_world (g.B.Bank.given old.parts.bank) (g.B.Bank.tape old.parts.bank) old in
    rw (← c.array.view_is)
    (replied-moving g.B.Bank.tells world (length (phases_of old.ahead)) old.parts.members c.args.limit c.args.who old.parts.entries new.parts.entries (Refused (Busy Reshape)) (Visible c.args.limit (visible_in new)) result did.1.0 did.0)

pub returns-clause-fits : goal.returns-clause-fits
returns-clause-fits g c =
    let old = c.array.inside.array in
    let new = c.set_visible-done.new.array in
    let result = c.set_visible-done.result in
    let world = moving_world (g.B.Bank.given old.parts.bank) (g.B.Bank.tape old.parts.bank) old in
    rw (← c.array.view_is)
    (replied-still g.B.Bank.tells world (length (phases_of old.ahead)) old.parts.members c.args.limit c.args.who old.parts.entries new.parts.entries (Visible c.args.limit (visible_in new)) result c.set_visible-done.ensures.answered)

pub returns-then-is_reshaping-clause-judged : goal.returns-then-is_reshaping-clause-judged
returns-then-is_reshaping-clause-judged g c =
    let reshaping = sym c.is_reshaping.ensures ∙ c.if-is_reshaping.true in
    let active = c.array.invariant.moves reshaping in
    let did = c.replace_with-done.ensures in
    rw (← c.array.view_is)
    (judged-moving c.array.inside.array c.args.limit (visible_in c.replace_with-done.new.dest) c.replace_with-done.result active.active did.1.0 did.1.1.0)

pub returns-clause-judged : goal.returns-clause-judged
returns-clause-judged g c =
    let still = sym c.is_reshaping.ensures ∙ c.if-is_reshaping.false in
    let rest = c.array.invariant.rests still in
    rw (← c.array.view_is)
    (judged-still c.array.inside.array c.args.limit (visible_in c.set_visible-done.new.array) c.set_visible-done.result rest.now.still c.set_visible-done.ensures.judged)

pub returns-then-is_reshaping-clause-limited : goal.returns-then-is_reshaping-clause-limited
returns-then-is_reshaping-clause-limited g c =
    let did = c.replace_with-done.ensures in
    rw (← c.array.view_is)
    (limited-moving c.args.limit c.array.inside.array c.replace_with-done.new.dest c.replace_with-done.result did.1.0 did.1.1.1.1.0)

pub returns-clause-limited : goal.returns-clause-limited
returns-clause-limited g c = rw (← c.array.view_is) c.set_visible-done.ensures.limited

pub returns-then-is_reshaping-clause-answered : goal.returns-then-is_reshaping-clause-answered
returns-then-is_reshaping-clause-answered g c =
    let reshaping = sym c.is_reshaping.ensures ∙ c.if-is_reshaping.true in
    let was = c.array.invariant.moves reshaping in
    let old = c.array.inside.array in
    let new = c.replace_with-done.new.dest in
    let result = c.replace_with-done.result in
    let did = c.replace_with-done.ensures in
    let world = moving_world (g.B.Bank.given old.parts.bank) (g.B.Bank.tape old.parts.bank) old in
    let number = subst (λ p. c.args.who.number ≡ next_number c.args.who.caller p.parts.entries) (sym c.array.view_is) c.requires.next in
    rw (← c.array.view_is)
    (limit-replied old g.B.Bank.tells world (length (phases_of old.ahead)) old.parts.members (list_length old.parts.members.newest) c.args.limit c.args.who old.parts.entries new.parts.entries (visible_in new) (visible_in new) result
    number was.within.sized (replied-moving g.B.Bank.tells world (length (phases_of old.ahead)) old.parts.members c.args.limit c.args.who old.parts.entries new.parts.entries (Refused (Busy Reshape)) (Visible c.args.limit (visible_in new)) result did.1.0 did.0) (judged-moving old c.args.limit (visible_in new) result was.active did.1.0 did.1.1.0))

pub returns-clause-answered : goal.returns-clause-answered
returns-clause-answered g c =
    let still = sym c.is_reshaping.ensures ∙ c.if-is_reshaping.false in
    let was = c.array.invariant.rests still in
    let old = c.array.inside.array in
    let new = c.set_visible-done.new.array in
    let result = c.set_visible-done.result in
    let world = moving_world (g.B.Bank.given old.parts.bank) (g.B.Bank.tape old.parts.bank) old in
    let number = subst (λ p. c.args.who.number ≡ next_number c.args.who.caller p.parts.entries) (sym c.array.view_is) c.requires.next in
    rw (← c.array.view_is)
    (limit-replied old g.B.Bank.tells world (length (phases_of old.ahead)) old.parts.members (list_length old.parts.members.newest) c.args.limit c.args.who old.parts.entries new.parts.entries (visible_in new) (visible_in new) result
    number was.within.sized (replied-still g.B.Bank.tells world (length (phases_of old.ahead)) old.parts.members c.args.limit c.args.who old.parts.entries new.parts.entries (Visible c.args.limit (visible_in new)) result c.set_visible-done.ensures.answered) (judged-still old c.args.limit (visible_in new) result was.now.still c.set_visible-done.ensures.judged))

pub returns-then-is_reshaping-clause-went : goal.returns-then-is_reshaping-clause-went
returns-then-is_reshaping-clause-went g c =
    let reshaping = sym c.is_reshaping.ensures ∙ c.if-is_reshaping.true in
    let was = c.array.invariant.moves reshaping in
    let old = c.array.inside.array in
    let new = c.replace_with-done.new.dest in
    let result = c.replace_with-done.result in
    let did = c.replace_with-done.ensures in
    let world = moving_world (g.B.Bank.given old.parts.bank) (g.B.Bank.tape old.parts.bank) old in
    rw (← c.array.view_is)
    (limit-went g.B.Bank.tells g.B.Bank.given g.B.Bank.tape g.B.Bank.faults_of old new (as-before did.1.1.1.1.0) world (length (phases_of old.ahead)) old.parts.members c.args.limit c.args.who (visible_in new) (visible_in new) result
    (replied-moving g.B.Bank.tells world (length (phases_of old.ahead)) old.parts.members c.args.limit c.args.who old.parts.entries new.parts.entries (Refused (Busy Reshape)) (Visible c.args.limit (visible_in new)) result did.1.0 did.0) (judged-moving old c.args.limit (visible_in new) result was.active did.1.0 did.1.1.0) did.1.1.1.1.0.ahead)

pub returns-clause-went : goal.returns-clause-went
returns-clause-went g c =
    let still = sym c.is_reshaping.ensures ∙ c.if-is_reshaping.false in
    let was = c.array.invariant.rests still in
    let old = c.array.inside.array in
    let new = c.set_visible-done.new.array in
    let result = c.set_visible-done.result in
    let world = moving_world (g.B.Bank.given old.parts.bank) (g.B.Bank.tape old.parts.bank) old in
    rw (← c.array.view_is)
    (limit-went g.B.Bank.tells g.B.Bank.given g.B.Bank.tape g.B.Bank.faults_of old new (as-before c.set_visible-done.ensures.limited) world (length (phases_of old.ahead)) old.parts.members c.args.limit c.args.who (visible_in new) (visible_in new) result
    (replied-still g.B.Bank.tells world (length (phases_of old.ahead)) old.parts.members c.args.limit c.args.who old.parts.entries new.parts.entries (Visible c.args.limit (visible_in new)) result c.set_visible-done.ensures.answered) (judged-still old c.args.limit (visible_in new) result was.now.still c.set_visible-done.ensures.judged) c.set_visible-done.ensures.limited.ahead)

pub invariant_of-array : goal.invariant_of-array
invariant_of-array g c =
    let reshaping = sym c.is_reshaping.ensures ∙ c.if-is_reshaping.true in
    let was = c.array.invariant.moves reshaping in
    let old = c.array.inside.array in
    let new = c.replace_with-done.new.dest in
    let result = c.replace_with-done.result in
    let did = c.replace_with-done.ensures in
    let world = moving_world (g.B.Bank.given old.parts.bank) (g.B.Bank.tape old.parts.bank) old in
    kept-in-reshape g.B.Bank.given g.B.Bank.tape (length c.array.inside.window.items) new
    (reshape-limited g.B.Bank.given g.B.Bank.tape old new did.1.1.1.1.0 world (length (phases_of old.ahead)) old.parts.members c.args.limit c.args.who (visible_in new) result (replied-moving g.B.Bank.tells world (length (phases_of old.ahead)) old.parts.members c.args.limit c.args.who old.parts.entries new.parts.entries (Refused (Busy Reshape)) (Visible c.args.limit (visible_in new)) result did.1.0 did.0) c.replace_with-done.ensures.1.1.1.1.1.1 c.check_array.ensures.within was)

pub invariant_of-array-2 : goal.invariant_of-array-2
invariant_of-array-2 g c =
    let still = sym c.is_reshaping.ensures ∙ c.if-is_reshaping.false in
    let was = c.array.invariant.rests still in
    let old = c.array.inside.array in
    let new = c.set_visible-done.new.array in
    let result = c.set_visible-done.result in
    let world = moving_world (g.B.Bank.given old.parts.bank) (g.B.Bank.tape old.parts.bank) old in
    kept-at-rest g.B.Bank.given g.B.Bank.tape (length c.array.inside.window.items) new
    (rest-limited g.B.Bank.given g.B.Bank.tape old new c.set_visible-done.ensures.limited world (length (phases_of old.ahead)) old.parts.members c.args.limit c.args.who (visible_in new) result (replied-still g.B.Bank.tells world (length (phases_of old.ahead)) old.parts.members c.args.limit c.args.who old.parts.entries new.parts.entries (Visible c.args.limit (visible_in new)) result c.set_visible-done.ensures.answered) (length c.array.inside.window.items)
    (c.check_array-2.ensures.rest c.set_visible-done.ensures.still) c.check_array-2.ensures.within was)

pub replace_with-done-requires : goal.replace_with-done-requires
replace_with-done-requires g c = (subst (λ p. c.args.who.number ≡ next_number c.args.who.caller p.parts.entries) (sym c.array.view_is) c.requires.next, (c.requires.caller, sym c.is_reshaping.ensures ∙ c.if-is_reshaping.true))

pub set_visible-done-requires-clause-next : goal.set_visible-done-requires-clause-next
set_visible-done-requires-clause-next g c = subst (λ p. c.args.who.number ≡ next_number c.args.who.caller p.parts.entries) (sym c.array.view_is) c.requires.next

pub set_visible-done-requires-clause-still : goal.set_visible-done-requires-clause-still
set_visible-done-requires-clause-still g c = sym c.is_reshaping.ensures ∙ c.if-is_reshaping.false

pub returns-then-is_reshaping-clause-unchanged : goal.returns-then-is_reshaping-clause-unchanged
returns-then-is_reshaping-clause-unchanged g c = rw (← c.array.view_is) c.replace_with-done.ensures.1.1.1.0

pub returns-then-is_reshaping-clause-ended : goal.returns-then-is_reshaping-clause-ended
returns-then-is_reshaping-clause-ended g c = c.replace_with-done.ensures.1.1.1.1.1.0

pub returns-clause-unchanged : goal.returns-clause-unchanged
returns-clause-unchanged g c = rw (← c.array.view_is) c.set_visible-done.ensures.unchanged

pub returns-clause-ended : goal.returns-clause-ended
returns-clause-ended g c = c.set_visible-done.ensures.ended
