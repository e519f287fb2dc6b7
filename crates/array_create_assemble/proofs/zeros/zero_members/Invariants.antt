use Rattle.std.proofs.Common.{◌≡◌}
use Rattle.sb_add_spare.specs.stripe_row_Rows.{present}
use Rattle.array_create_assemble.specs.Filling.{OnlyBelow, AreSlotsDone, OnlyFirstFail, AreZeros}
use Rattle.array_create_assemble.proofs.zeros.zero_members.Given as goal

abbrev pub invariant-loop-slot : goal.invariant-loop-slot
invariant-loop-slot g l =
    let given = g.B.Bank.given l.fn.bank in
    record {
      same : g.B.Bank.given l.bank ≡ given;
      zeros : g.B.Bank.tells → AreZeros l.slot l.spec (present given (g.B.Bank.tape l.bank));
      done : g.B.Bank.tells → AreSlotsDone given.start l.slot (g.B.Bank.tape l.fn.bank) (g.B.Bank.tape l.bank);
      tape : g.B.Bank.tells → OnlyBelow l.slot (g.B.Bank.tape l.fn.bank) (g.B.Bank.tape l.bank);
      counts : OnlyFirstFail l.slot (g.B.Bank.faults_of l.fn.bank) (g.B.Bank.faults_of l.bank);
    }
