use Rattle.std.proofs.Common.{◌≤◌, ℕ, List, inr, sym, subst, arith}
use Rattle.bank.specs.declared.bank.Operation.{Operation}
use Rattle.bank.specs.Given.{Given}
use Rattle.sb_add_spare.specs.stripe_row_Rows.{present}
use Rattle.array_create_assemble.specs.Filling.{AreFilled, AreStored, AreSlotsDone, AreZeros}
use Rattle.array_create_assemble.proofs.CreateLaws.{fewer}
use Rattle.array_create_assemble.proofs.FillLaws.{below-then}
use Rattle.array_create_assemble.proofs.FirstLaws.{fault-later}
use Rattle.array_create_assemble.proofs.NewLaws.{flushes-below, all-given, others-hold, are-writable, in-sectors, is-new, is-opened}
use Rattle.array_create_assemble.proofs.making.make.Goals as goal

pub returns-in-Err-clause-tape : goal.returns-in-Err-clause-tape
returns-in-Err-clause-tape g c = λ told. flushes-below c.args.spec.now.shape.disks _ _ (c.begin.ensures.tape told)

pub returns-in-Err-fill-clause-refused : goal.returns-in-Err-fill-clause-refused
returns-in-Err-fill-clause-refused g c =
    let bank : Given = g.B.Bank.given c.args.bank.now in
    let slot : ℕ = c.in-Err-fill.slot in
    let known : c.args.spec.now.shape.disks ≤ bank.slots = fewer bank.slots c.args.spec.now.shape.disks c.args.backup c.in-None.ensures.room.known in
    inr (
      sym c.in-None.ensures.exact,
      (
        omega (arith, known, c.in-Err-fill.ensures.cause.0),
        fault-later slot (g.B.Bank.faults_of c.args.bank.now) (g.B.Bank.faults_of c.begin.new.bank) (g.B.Bank.faults_of c.fill.new.bank)
            (c.begin.ensures.counts.never_falls slot) (c.fill.ensures.counts.never_falls slot) c.in-Err-fill.ensures.cause.1,
        record {
          given = c.in-Ok.ready.given;
          slots = all-given bank c.in-Ok.ready.given (g.B.Bank.faults_of c.args.bank.now) (g.B.Bank.faults_of c.begin.new.bank) (g.B.Bank.faults_of c.fill.new.bank)
              c.in-Ok.ensures.all c.in-Ok.ensures.sound;
          is = c.in-Ok.ensures.free;
        },
      ),
    )

pub returns-in-Err-fill-clause-tape : goal.returns-in-Err-fill-clause-tape
returns-in-Err-fill-clause-tape g c = λ told.
    below-then c.args.spec.now.shape.disks _ _ _ (flushes-below c.args.spec.now.shape.disks _ _ (c.begin.ensures.tape told)) (c.fill.ensures.tape told)

pub returns-in-Ok-fill-clause-opened : goal.returns-in-Ok-fill-clause-opened
returns-in-Ok-fill-clause-opened g c =
    let bank : Given = g.B.Bank.given c.args.bank.now in
    let old : List Operation = g.B.Bank.tape c.args.bank.now in
    let mid : List Operation = g.B.Bank.tape c.begin.new.bank in
    let new : List Operation = g.B.Bank.tape c.fill.new.bank in
    let disks : ℕ = c.args.spec.now.shape.disks in
    is-opened bank c.args.backup c.args.spec.now c.in-None.ensures.room c.requires.slots c.in-Ok-fill.members
    (subst (λ (b : Given). AreFilled b c.args.spec.now c.in-Ok-fill.members) c.begin.ensures.given c.in-Ok-fill.ensures.members)
    c.in-Ok.ready.given c.in-Ok.ensures.all c.requires.backup g.B.Bank.tells (present bank new) (present bank old)
    (λ told. subst (λ (b : Given). AreStored b disks c.in-Ok-fill.members.own (present b new)) c.begin.ensures.given (c.in-Ok-fill.ensures.stored told))
    (λ told. others-hold bank.start disks old mid new (c.begin.ensures.tape told)
    (subst (λ (b : Given). AreSlotsDone b.start disks mid new) c.begin.ensures.given (c.in-Ok-fill.ensures.done told)))
    c.in-Ok.ensures.free

pub returns-in-Ok-fill-clause-new : goal.returns-in-Ok-fill-clause-new
returns-in-Ok-fill-clause-new g c =
    let bank : Given = g.B.Bank.given c.args.bank.now in
    is-new bank c.args.backup c.args.spec.now c.in-None.ensures.room c.requires.slots c.in-Ok-fill.members
    (subst (λ (b : Given). AreFilled b c.args.spec.now c.in-Ok-fill.members) c.begin.ensures.given c.in-Ok-fill.ensures.members)
    c.in-Ok.ready.given c.in-Ok.ensures.all

pub returns-in-Ok-fill-clause-zeros : goal.returns-in-Ok-fill-clause-zeros
returns-in-Ok-fill-clause-zeros g c = λ told.
    subst (λ (b : Given). AreZeros c.args.spec.now.shape.disks c.args.spec.now (present b (g.B.Bank.tape c.fill.new.bank)))
    c.begin.ensures.given (c.in-Ok-fill.ensures.zeros told)

pub returns-in-Ok-fill-clause-given : goal.returns-in-Ok-fill-clause-given
returns-in-Ok-fill-clause-given g c =
    all-given (g.B.Bank.given c.args.bank.now) c.in-Ok.ready.given (g.B.Bank.faults_of c.args.bank.now) (g.B.Bank.faults_of c.begin.new.bank) (g.B.Bank.faults_of c.fill.new.bank)
    c.in-Ok.ensures.all c.in-Ok.ensures.sound

pub returns-in-Ok-fill-clause-writable : goal.returns-in-Ok-fill-clause-writable
returns-in-Ok-fill-clause-writable g c =
    are-writable (g.B.Bank.given c.args.bank.now) c.args.backup c.args.spec.now c.in-None.ensures.room c.requires.slots c.in-Ok-fill.members
    (subst (λ (b : Given). AreFilled b c.args.spec.now c.in-Ok-fill.members) c.begin.ensures.given c.in-Ok-fill.ensures.members)

pub returns-in-Ok-fill-clause-sectors : goal.returns-in-Ok-fill-clause-sectors
returns-in-Ok-fill-clause-sectors g c = λ told.
    let bank : Given = g.B.Bank.given c.args.bank.now in
    let new : List Operation = g.B.Bank.tape c.fill.new.bank in
    in-sectors bank c.args.backup c.args.spec.now c.in-None.ensures.room c.requires.slots c.in-Ok-fill.members
    (subst (λ (b : Given). AreFilled b c.args.spec.now c.in-Ok-fill.members) c.begin.ensures.given c.in-Ok-fill.ensures.members)
    (present bank new)
    (subst (λ (b : Given). AreStored b c.args.spec.now.shape.disks c.in-Ok-fill.members.own (present b new)) c.begin.ensures.given (c.in-Ok-fill.ensures.stored told))

pub returns-in-Ok-fill-clause-flushed : goal.returns-in-Ok-fill-clause-flushed
returns-in-Ok-fill-clause-flushed g c = λ told.
    let bank : Given = g.B.Bank.given c.args.bank.now in
    (subst (λ (b : Given). AreSlotsDone b.start c.args.spec.now.shape.disks (g.B.Bank.tape c.begin.new.bank) (g.B.Bank.tape c.fill.new.bank)) c.begin.ensures.given
    (c.in-Ok-fill.ensures.done told)).flushed c.in-Ok.ready.given (c.in-Ok.ensures.flushed told)

pub returns-in-Ok-fill-clause-tape : goal.returns-in-Ok-fill-clause-tape
returns-in-Ok-fill-clause-tape g c = λ told.
    below-then c.args.spec.now.shape.disks _ _ _ (flushes-below c.args.spec.now.shape.disks _ _ (c.begin.ensures.tape told)) (c.fill.ensures.tape told)
