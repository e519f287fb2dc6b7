use Rattle.std.proofs.Common.{List, ap, ◌∙◌}
use Rattle.bank.specs.declared.bank.Operation.{Operation}
use Rattle.bank.specs.Given.{Given}
use Rattle.sb_add_spare.specs.stripe_row_Rows.{present}
use Rattle.sb_add_spare.proofs.array_members_Flushed.{contents-added}
use Rattle.array_create_assemble.proofs.NewLaws.{used-answer, lost-slot}
use Rattle.array_create_assemble.proofs.making.begin.Goals as goal

pub returns-in-Some-clause-cause : goal.returns-in-Some-clause-cause
returns-in-Some-clause-cause g c =
    let bank : Given = g.B.Bank.given c.args.bank.now in
    let old : List Operation = g.B.Bank.tape c.args.bank.now in
    let new : List Operation = g.B.Bank.tape c.look.new.bank in
    record {
      given = c.in-Ok.found.given;
      slots = c.in-Ok.ensures.slots;
      is = λ told. used-answer bank c.args.backup c.in-Ok.found.given c.args.spec.now.shape.disks c.slots.result c.args.spec.now.uuid
          (present bank old) (present bank new) c.in-Ok.found.seen c.used_slot.result
          (c.slots.ensures ∙ ap (λ (b : Given). b.slots) c.look.ensures.given)
          (contents-added bank.start old new (c.look.ensures.tape told)) (c.in-Ok.ensures.seen told) c.used_slot.ensures ∙ c.in-Some.is;
    }

pub returns-in-Some-first_slot-clause-cause : goal.returns-in-Some-first_slot-clause-cause
returns-in-Some-first_slot-clause-cause g c =
    let bank : Given = g.B.Bank.given c.args.bank.now in
    let old : List Operation = g.B.Bank.tape c.args.bank.now in
    let new : List Operation = g.B.Bank.tape c.look.new.bank in
    let slot = lost-slot bank c.in-Ok.found.given c.in-Ok.found.lost c.in-Some-first_slot.slot (g.B.Bank.faults_of c.args.bank.now) (g.B.Bank.faults_of c.look.new.bank)
    c.in-Ok.ensures.slots c.in-Ok.ensures.lost c.in-Some-first_slot.ensures.some in (
      slot.0,
      slot.1,
      record {
        given = c.in-Ok.found.given;
        slots = c.in-Ok.ensures.slots;
        is = λ told. used-answer bank c.args.backup c.in-Ok.found.given c.args.spec.now.shape.disks c.slots.result c.args.spec.now.uuid
            (present bank old) (present bank new) c.in-Ok.found.seen c.used_slot.result
            (c.slots.ensures ∙ ap (λ (b : Given). b.slots) c.look.ensures.given)
            (contents-added bank.start old new (c.look.ensures.tape told)) (c.in-Ok.ensures.seen told) c.used_slot.ensures ∙ c.in-None.is;
      },
    )

pub returns-clause-free : goal.returns-clause-free
returns-clause-free g c = λ told.
    let bank : Given = g.B.Bank.given c.args.bank.now in
    let old : List Operation = g.B.Bank.tape c.args.bank.now in
    let new : List Operation = g.B.Bank.tape c.look.new.bank in
    used-answer bank c.args.backup c.in-Ok.found.given c.args.spec.now.shape.disks c.slots.result c.args.spec.now.uuid
    (present bank old) (present bank new) c.in-Ok.found.seen c.used_slot.result
    (c.slots.ensures ∙ ap (λ (b : Given). b.slots) c.look.ensures.given)
    (contents-added bank.start old new (c.look.ensures.tape told)) (c.in-Ok.ensures.seen told) c.used_slot.ensures ∙ c.in-None.is
