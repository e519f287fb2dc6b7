use Rattle.std.proofs.Common.{◌≡◌, length, refl, sym, subst}
use Rattle.array_open.specs.sb_specs_Reading.{list_length}
use Rattle.history_append.specs.history_the_Event_TheVariants.{Added}
use Rattle.history_append.specs.history_the_Request_TheVariants.{Add as AsksAdd}
use Rattle.history_append.specs.history_Flat.{next_number}
use Rattle.array_open.proofs.array_fixed_laws_PlansKept.{add-answered}
use Rattle.array_open.proofs.array_Both.{both-added}
use Rattle.array_requests.proofs.adding.add.Goals as goal

pub add-done-requires-clause-next : goal.add-done-requires-clause-next
add-done-requires-clause-next g c = subst (λ p. c.args.who.number ≡ next_number c.args.who.caller p.parts.entries) (sym c.array.view_is) c.requires.next

pub invariant_of-array : goal.invariant_of-array
invariant_of-array g c =
    let old = c.array.inside.array in
    let new = c.add-done.new.array in
    let did = c.add-done.ensures in
    let added = add-answered c.args.who (list_length old.parts.members.newest) (AsksAdd c.args.slot) (Added c.args.slot) c.add-done.result did.answered refl in
    both-added g.B.Bank.given g.B.Bank.tape (length c.array.inside.window.items) old new did.active did.given added did.called c.add-done.result did.caused did.whole c.check_array.ensures.rest c.check_array.ensures.within
    c.array.invariant

pub returns-clause-answered : goal.returns-clause-answered
returns-clause-answered g c = rw (← c.array.view_is) c.add-done.ensures.answered

pub returns-clause-unchanged : goal.returns-clause-unchanged
returns-clause-unchanged g c = rw (← c.array.view_is) c.add-done.ensures.unchanged

pub returns-clause-caused : goal.returns-clause-caused
returns-clause-caused g c = rw (← c.array.view_is) c.add-done.ensures.caused

pub returns-clause-stored : goal.returns-clause-stored
returns-clause-stored g c = rw (← c.array.view_is) c.add-done.ensures.stored

pub returns-clause-numbers : goal.returns-clause-numbers
returns-clause-numbers g c = rw (← c.array.view_is) c.add-done.ensures.numbers

pub returns-clause-called : goal.returns-clause-called
returns-clause-called g c = rw (← c.array.view_is) c.add-done.ensures.called

pub returns-clause-others : goal.returns-clause-others
returns-clause-others g c = rw (← c.array.view_is) c.add-done.ensures.others

pub returns-clause-clean : goal.returns-clause-clean
returns-clause-clean g c = rw (← c.array.view_is) c.add-done.ensures.clean

pub returns-clause-failed : goal.returns-clause-failed
returns-clause-failed g c = rw (← c.array.view_is) c.add-done.ensures.failed

pub returns-clause-active : goal.returns-clause-active
returns-clause-active g c = rw (← c.array.view_is) c.add-done.ensures.active

pub returns-clause-course : goal.returns-clause-course
returns-clause-course g c = rw (← c.array.view_is) c.add-done.ensures.course

pub returns-clause-given : goal.returns-clause-given
returns-clause-given g c = rw (← c.array.view_is) c.add-done.ensures.given
