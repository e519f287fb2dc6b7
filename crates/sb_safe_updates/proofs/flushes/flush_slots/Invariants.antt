use Rattle.std.proofs.Common.{◌≡◌}
use Rattle.array_members.specs.Flushing.{OnlyItsSlotsFail, OnlyFlushesAdded}
use Rattle.array_members.specs.Flushing.{AreTried}
use Rattle.sb_safe_updates.proofs.flushes.flush_slots.Given as goal

abbrev pub invariant-loop-slot : goal.invariant-loop-slot
invariant-loop-slot g l =
    let given = g.B.Bank.given l.fn.bank in
    record {
      same : g.B.Bank.given l.bank ≡ given;
      tried : AreTried g.B.Bank.tells given (g.B.Bank.tape l.bank) l.slot l.fn.lost l.failed (g.B.Bank.faults_of l.fn.bank) (g.B.Bank.faults_of l.bank);
      tape : g.B.Bank.tells → OnlyFlushesAdded (g.B.Bank.tape l.fn.bank) (g.B.Bank.tape l.bank);
      counts : OnlyItsSlotsFail given (g.B.Bank.faults_of l.fn.bank) (g.B.Bank.faults_of l.bank);
    }
