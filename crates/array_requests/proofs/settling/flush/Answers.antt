use Rattle.std.proofs.Common.{◌≡◌, length, refl, sym, subst}
use Rattle.array_open.specs.sb_specs_Reading.{list_length}
use Rattle.history_append.specs.history_the_Event_TheVariants.{Flushed}
use Rattle.history_append.specs.history_the_Request_TheVariants.{Flush as AsksFlush}
use Rattle.history_append.specs.history_Flat.{next_number}
use Rattle.array_open.proofs.array_fixed_laws_PlansKept.{add-answered}
use Rattle.array_open.proofs.array_Both.{both-called}
use Rattle.array_requests.proofs.settling.flush.Goals as goal

pub flush-done-requires-clause-next : goal.flush-done-requires-clause-next
flush-done-requires-clause-next g c = subst (λ p. c.args.who.number ≡ next_number c.args.who.caller p.parts.entries) (sym c.array.view_is) c.requires.next

pub invariant_of-array : goal.invariant_of-array
invariant_of-array g c =
    let old = c.array.inside.array in
    let new = c.flush-done.new.array in
    let did = c.flush-done.ensures in
    let added = add-answered c.args.who (list_length old.parts.members.newest) AsksFlush Flushed c.flush-done.result did.answered refl in
    both-called g.B.Bank.given g.B.Bank.tape (length c.array.inside.window.items) old new did.active did.given added did.called (λ still. did.whole) c.check_array.ensures.rest c.check_array.ensures.within c.array.invariant

pub returns-clause-answered : goal.returns-clause-answered
returns-clause-answered g c = rw (← c.array.view_is) c.flush-done.ensures.answered

pub returns-clause-unchanged : goal.returns-clause-unchanged
returns-clause-unchanged g c = rw (← c.array.view_is) c.flush-done.ensures.unchanged

pub returns-clause-flushed : goal.returns-clause-flushed
returns-clause-flushed g c = rw (← c.array.view_is) c.flush-done.ensures.flushed

pub returns-clause-called : goal.returns-clause-called
returns-clause-called g c = rw (← c.array.view_is) c.flush-done.ensures.called

pub returns-clause-others : goal.returns-clause-others
returns-clause-others g c = rw (← c.array.view_is) c.flush-done.ensures.others

pub returns-clause-clean : goal.returns-clause-clean
returns-clause-clean g c = rw (← c.array.view_is) c.flush-done.ensures.clean

pub returns-clause-caused : goal.returns-clause-caused
returns-clause-caused g c = rw (← c.array.view_is) c.flush-done.ensures.caused

pub returns-clause-failed : goal.returns-clause-failed
returns-clause-failed g c = rw (← c.array.view_is) c.flush-done.ensures.failed

pub returns-clause-active : goal.returns-clause-active
returns-clause-active g c = rw (← c.array.view_is) c.flush-done.ensures.active

pub returns-clause-course : goal.returns-clause-course
returns-clause-course g c = rw (← c.array.view_is) c.flush-done.ensures.course

pub returns-clause-given : goal.returns-clause-given
returns-clause-given g c = rw (← c.array.view_is) c.flush-done.ensures.given
