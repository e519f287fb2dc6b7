use Rattle.std.proofs.Common.{length, refl}
use Rattle.array_create_assemble.specs.sb_specs_Reading.{is_reshaping, list_length}
use Rattle.array_create_assemble.specs.history_the_Event_TheVariants.{Stopped}
use Rattle.array_steps.proofs.array_fixed_laws_PlansKept.{add-behind}
use Rattle.array_steps.proofs.array_Closed.{unsettled-whole}
use Rattle.array_steps.proofs.array_Entered.{add-unsettled}
use Rattle.array_steps.proofs.array_Kept.{turned-out}
use Rattle.array_steps.proofs.array_Both.{on-both, both-called}
use Rattle.array_open.proofs.ending.stop.Goals as goal

pub invariant_of-running : goal.invariant_of-running
invariant_of-running g c =
    let old = c.array.inside.array in
    let new = c.in-Err.array in
    let did = c.in-Err.ensures in
    let whole = unsettled-whole (g.B.Bank.given new.parts.bank) (list_length old.parts.members.newest) old.parts.members new.parts.members c.in-Err.fault c.check_array.ensures.placed did.caused in
    both-called g.B.Bank.given g.B.Bank.tape (length c.array.inside.window.items) old new did.left_active did.left_given (add-unsettled c.args.who c.in-Err.fault did.refused) did.called (λ still. whole)
    c.check_array.ensures.rest c.check_array.ensures.within c.array.invariant

pub returns-in-Ok-clause-flushed : goal.returns-in-Ok-clause-flushed
returns-in-Ok-clause-flushed g c = rw (← c.array.view_is) (λ still. c.in-Ok.ensures.flushed)

pub returns-in-Ok-clause-plain : goal.returns-in-Ok-clause-plain
returns-in-Ok-clause-plain g c =
    let did = c.in-Ok.ensures in
    let array = c.array.inside.array in
    rw (← c.array.view_is) (on-both (is_reshaping array.parts.members.newest)
    (λ active. turned-out g.B.Bank.given g.B.Bank.tape array c.in-Ok.ended.0 c.in-Ok.ended.1 did.given did.grows did.uuid did.slots did.first (add-behind Stopped did.stopped refl) (c.array.invariant.moves active))
    (λ still. did.plain still))

pub returns-in-Ok-clause-plainly : goal.returns-in-Ok-clause-plainly
returns-in-Ok-clause-plainly g c = rw (← c.array.view_is) (λ still. c.in-Ok.ensures.plainly still)

pub returns-in-Ok-clause-stopped : goal.returns-in-Ok-clause-stopped
returns-in-Ok-clause-stopped g c = rw (← c.array.view_is) c.in-Ok.ensures.stopped

pub returns-in-Ok-clause-ready : goal.returns-in-Ok-clause-ready
returns-in-Ok-clause-ready g c = rw (← c.array.view_is) c.in-Ok.ensures.ready

pub returns-in-Ok-clause-grows : goal.returns-in-Ok-clause-grows
returns-in-Ok-clause-grows g c = rw (← c.array.view_is) c.in-Ok.ensures.grows

pub returns-in-Ok-clause-losses : goal.returns-in-Ok-clause-losses
returns-in-Ok-clause-losses g c = rw (← c.array.view_is) c.in-Ok.ensures.losses

pub returns-in-Ok-clause-right : goal.returns-in-Ok-clause-right
returns-in-Ok-clause-right g c = rw (← c.array.view_is) c.in-Ok.ensures.right

pub returns-in-Ok-clause-uuid : goal.returns-in-Ok-clause-uuid
returns-in-Ok-clause-uuid g c = rw (← c.array.view_is) c.in-Ok.ensures.uuid

pub returns-in-Ok-clause-slots : goal.returns-in-Ok-clause-slots
returns-in-Ok-clause-slots g c = rw (← c.array.view_is) c.in-Ok.ensures.slots

pub returns-in-Ok-clause-first : goal.returns-in-Ok-clause-first
returns-in-Ok-clause-first g c = rw (← c.array.view_is) c.in-Ok.ensures.first

pub returns-in-Ok-clause-given : goal.returns-in-Ok-clause-given
returns-in-Ok-clause-given g c = rw (← c.array.view_is) c.in-Ok.ensures.given

pub returns-in-Ok-clause-never_falls : goal.returns-in-Ok-clause-never_falls
returns-in-Ok-clause-never_falls g c = rw (← c.array.view_is) c.in-Ok.ensures.never_falls

pub returns-in-Err-clause-refused : goal.returns-in-Err-clause-refused
returns-in-Err-clause-refused g c = rw (← c.array.view_is) c.in-Err.ensures.refused

pub returns-in-Err-clause-caused : goal.returns-in-Err-clause-caused
returns-in-Err-clause-caused g c = rw (← c.array.view_is) c.in-Err.ensures.caused

pub returns-in-Err-clause-called : goal.returns-in-Err-clause-called
returns-in-Err-clause-called g c = rw (← c.array.view_is) c.in-Err.ensures.called

pub returns-in-Err-clause-left_failed : goal.returns-in-Err-clause-left_failed
returns-in-Err-clause-left_failed g c = rw (← c.array.view_is) c.in-Err.ensures.left_failed

pub returns-in-Err-clause-left_active : goal.returns-in-Err-clause-left_active
returns-in-Err-clause-left_active g c = rw (← c.array.view_is) c.in-Err.ensures.left_active

pub returns-in-Err-clause-left_given : goal.returns-in-Err-clause-left_given
returns-in-Err-clause-left_given g c = rw (← c.array.view_is) c.in-Err.ensures.left_given

pub returns-in-Err-clause-course : goal.returns-in-Err-clause-course
returns-in-Err-clause-course g c = rw (← c.array.view_is) c.in-Err.ensures.course
