use Rattle.std.proofs.Common.{◌+◌, ◌<◌, ◌≤◌, ℕ, List, refl, sym, ap, ◌∙◌, subst, arith}
use Rattle.bank.specs.declared.bank.Operation.{Operation}
use Rattle.bank.specs.Given.{Given}
use Rattle.sb_add_spare.specs.stripe_row_Rows.{present}
use Rattle.array_create_assemble.specs.Creating.{rows_end}
use Rattle.array_create_assemble.specs.Filling.{IsSlotDone}
use Rattle.array_create_assemble.proofs.FillLaws.{below-none, below-then, below-more}
use Rattle.array_create_assemble.proofs.FirstLaws.{slots-none, slots-more, zeros-none, zeros-more, apart-present, counts-none, counts-more, counts-wider, fault-later}
use Rattle.array_create_assemble.proofs.zeros.zero_members.Goals as goal

pub loop-slot-init : goal.loop-slot-init
loop-slot-init g c = record {
  same = refl;
  zeros = λ told. zeros-none c.args.spec.now (present (g.B.Bank.given c.args.bank.now) (g.B.Bank.tape c.args.bank.now));
  done = λ told. slots-none (g.B.Bank.given c.args.bank.now).start (g.B.Bank.tape c.args.bank.now);
  tape = λ told. below-none 0 _ _ refl;
  counts = counts-none (g.B.Bank.faults_of c.args.bank.now);
}

pub zero_member-requires-clause-slot : goal.zero_member-requires-clause-slot
zero_member-requires-clause-slot g c =
    subst (λ (b : Given). c.loop-slot.slot < b.slots) (sym c.loop-slot.invariant.same) (omega (arith, c.requires.known, c.loop-slot-test.true))

pub zero_member-requires-clause-within : goal.zero_member-requires-clause-within
zero_member-requires-clause-within g c =
    subst (λ (b : Given). rows_end c.args.spec.now ≤ b.sectors c.loop-slot.slot) (sym c.loop-slot.invariant.same) (c.requires.within c.loop-slot.slot c.loop-slot-test.true)

pub loop-slot-preserved : goal.loop-slot-preserved
loop-slot-preserved g c =
    let was = c.loop-slot.invariant in
    let did = c.in-Ok.ensures in
    let given : Given = g.B.Bank.given c.args.bank.now in
    let n : ℕ = c.loop-slot.slot in
    let first : List Operation = g.B.Bank.tape c.args.bank.now in
    let old : List Operation = g.B.Bank.tape c.loop-slot.bank in
    let new : List Operation = g.B.Bank.tape c.zero_member.new.bank in
    record {
      same = did.given ∙ was.same;
      zeros = λ told. zeros-more c.args.spec.now n (present given old) (present given new) (was.zeros told)
          (λ row lt. ap (λ (b : Given). present b new n (c.args.spec.now.offset + row)) (sym was.same) ∙ did.zero told row lt)
          (λ s k other. apart-present given.start old new n s k
          (subst (λ (b : Given). IsSlotDone b.start old new n) was.same (did.done told)) other);
      done = λ told. slots-more given.start n first old new (was.done told)
          (subst (λ (b : Given). IsSlotDone b.start old new n) was.same (did.done told));
      tape = λ told. below-then (n + 1) first old new (below-more n (n + 1) first old (omega arith) (was.tape told)) (did.tape told);
      counts = counts-more n _ _ _ was.counts did.never_falls did.others;
    }

pub returns-in-Err-clause-tape : goal.returns-in-Err-clause-tape
returns-in-Err-clause-tape g c = λ told.
    let n : ℕ = c.loop-slot.slot in
    below-then c.args.spec.now.shape.disks _ _ _ (below-more n c.args.spec.now.shape.disks _ _ (omega (arith, c.loop-slot-test.true)) (c.loop-slot.invariant.tape told))
    (below-more (n + 1) c.args.spec.now.shape.disks _ _ (omega (arith, c.loop-slot-test.true)) (c.zero_member.ensures.tape told))

pub returns-in-Err-clause-counts : goal.returns-in-Err-clause-counts
returns-in-Err-clause-counts g c =
    counts-wider (c.loop-slot.slot + 1) c.args.spec.now.shape.disks _ _ (omega (arith, c.loop-slot-test.true))
    (counts-more c.loop-slot.slot _ _ _ c.loop-slot.invariant.counts c.zero_member.ensures.never_falls c.zero_member.ensures.others)

pub returns-in-Err-clause-cause : goal.returns-in-Err-clause-cause
returns-in-Err-clause-cause g c = (
  c.loop-slot-test.true,
  fault-later c.loop-slot.slot (g.B.Bank.faults_of c.args.bank.now) (g.B.Bank.faults_of c.loop-slot.bank) (g.B.Bank.faults_of c.zero_member.new.bank) (c.loop-slot.invariant.counts.never_falls c.loop-slot.slot)
      (c.zero_member.ensures.never_falls c.loop-slot.slot) c.in-Err.ensures.cause,
)

pub returns-clause-zeros : goal.returns-clause-zeros
returns-clause-zeros g c = λ told slot row h. c.loop-slot.invariant.zeros told slot row (omega (arith, h, c.loop-slot-test.false))

pub returns-clause-done : goal.returns-clause-done
returns-clause-done g c = λ told. record {
  flushed = (c.loop-slot.invariant.done told).flushed;
  others = λ s k h. (c.loop-slot.invariant.done told).others s k (omega (arith, h, c.loop-slot.auto.slot-end));
}

pub returns-clause-tape : goal.returns-clause-tape
returns-clause-tape g c = λ told. below-more c.loop-slot.slot c.args.spec.now.shape.disks _ _ (omega (arith, c.loop-slot.auto.slot-end)) (c.loop-slot.invariant.tape told)

pub returns-clause-counts : goal.returns-clause-counts
returns-clause-counts g c = counts-wider c.loop-slot.slot c.args.spec.now.shape.disks _ _ (omega (arith, c.loop-slot.auto.slot-end)) c.loop-slot.invariant.counts
