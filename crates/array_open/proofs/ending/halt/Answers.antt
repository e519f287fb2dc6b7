use Rattle.std.proofs.Common.{[], ◌∷◌, refl, ap}
use Rattle.array_create_assemble.specs.sb_specs_Reading.{is_reshaping}
use Rattle.array_create_assemble.specs.history_the_Event_TheVariants.{Halted}
use Rattle.array_steps.proofs.array_members_MovedLaws.{grows-none}
use Rattle.array_steps.proofs.array_fixed_laws_PlansKept.{add-entered}
use Rattle.array_steps.proofs.array_Kept.{turned-out}
use Rattle.array_steps.proofs.array_Both.{on-both}
use Rattle.array_open.proofs.ending.halt.Goals as goal

pub returns-clause-plain : goal.returns-clause-plain
returns-clause-plain g c =
    let did = c.halt.ensures in
    let array = c.array.inside.array in
    rw (← c.array.view_is) (on-both (is_reshaping array.parts.members.newest)
    (λ active. turned-out g.B.Bank.given g.B.Bank.tape array c.halt.result.0 c.halt.result.1 (ap g.B.Bank.given did.bank) (grows-none (λ t. ap g.B.Bank.tape did.bank)) did.uuid did.given did.first
    (add-entered (Halted ∷ []) did.entered (λ end. refl)) (c.array.invariant.moves active))
    (λ still. did.plain still))

pub returns-clause-bank : goal.returns-clause-bank
returns-clause-bank g c = rw (← c.array.view_is) c.halt.ensures.bank

pub returns-clause-entered : goal.returns-clause-entered
returns-clause-entered g c = rw (← c.array.view_is) c.halt.ensures.entered

pub returns-clause-losses : goal.returns-clause-losses
returns-clause-losses g c = rw (← c.array.view_is) c.halt.ensures.losses

pub returns-clause-listed : goal.returns-clause-listed
returns-clause-listed g c = rw (← c.array.view_is) c.halt.ensures.listed

pub returns-clause-ends : goal.returns-clause-ends
returns-clause-ends g c = rw (← c.array.view_is) c.halt.ensures.ends

pub returns-clause-right : goal.returns-clause-right
returns-clause-right g c = rw (← c.array.view_is) c.halt.ensures.right

pub returns-clause-plainly : goal.returns-clause-plainly
returns-clause-plainly g c = rw (← c.array.view_is) c.halt.ensures.plainly

pub returns-clause-uuid : goal.returns-clause-uuid
returns-clause-uuid g c = rw (← c.array.view_is) c.halt.ensures.uuid

pub returns-clause-given : goal.returns-clause-given
returns-clause-given g c = rw (← c.array.view_is) c.halt.ensures.given

pub returns-clause-first : goal.returns-clause-first
returns-clause-first g c = rw (← c.array.view_is) c.halt.ensures.first

pub returns-clause-last : goal.returns-clause-last
returns-clause-last g c = rw (← c.array.view_is) c.halt.ensures.last
