use Rattle.std.proofs.Common.{◌<◌, ◌∙◌, arith}
use Rattle.sb_update.specs.bank_Given.{Given}
use Rattle.array_members.proofs.Flushed.{tried-step, added-both, counts-on}
use Rattle.sb_safe_updates.proofs.flushes.flush_slots.Goals as goal

pub loop-slot-preserved : goal.loop-slot-preserved
loop-slot-preserved g c =
    let bank : Given = g.B.Bank.given c.args.bank.now in
    let known : c.loop-slot.slot < bank.slots = omega (arith, c.slots-slot-end.ensures, c.loop-slot-test.true) in
    let was = c.loop-slot.invariant in
    let step = c.flush_slot-failed.ensures in
    record {
      same = step.given ∙ was.same;
      tried = tried-step g.B.Bank.tells bank (g.B.Bank.tape c.loop-slot.bank) (g.B.Bank.tape c.flush_slot-failed.new.bank) c.loop-slot.slot c.args.lost
          c.loop-slot.failed c.flush_slot-failed.result (g.B.Bank.faults_of c.args.bank.now) (g.B.Bank.faults_of c.loop-slot.bank)
          (g.B.Bank.faults_of c.flush_slot-failed.new.bank) was.tried step.stays step.others step.tape step.flushed step.sound step.failed
          was.counts.never_falls step.never_falls;
      tape = λ told. added-both (g.B.Bank.tape c.args.bank.now) (g.B.Bank.tape c.loop-slot.bank) (g.B.Bank.tape c.flush_slot-failed.new.bank)
          (was.tape told) (step.tape told);
      counts = counts-on bank c.loop-slot.slot (g.B.Bank.faults_of c.args.bank.now) (g.B.Bank.faults_of c.loop-slot.bank)
          (g.B.Bank.faults_of c.flush_slot-failed.new.bank) known was.counts step.never_falls step.counts;
    }
