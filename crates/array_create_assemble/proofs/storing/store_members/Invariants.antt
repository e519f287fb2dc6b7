use Rattle.std.proofs.Common.{◌≡◌, ◌≢◌, ℕ, Some, None}
use Rattle.std.specs.Prelude.{slice_index_or}
use Rattle.sb_add_spare.specs.stripe_row_Rows.{present}
use Rattle.array_create_assemble.specs.Filling.{OnlyBelow, AreSlotsDone, OnlyFirstFail, AreFirst, AreStored}
use Rattle.array_create_assemble.proofs.storing.store_members.Given as goal

abbrev pub invariant-loop-slot : goal.invariant-loop-slot
invariant-loop-slot g l =
    let given = g.B.Bank.given l.fn.bank in
    let before = g.B.Bank.tape l.fn.bank in
    let now = g.B.Bank.tape l.bank in
    record {
      same : g.B.Bank.given l.bank ≡ given;
      newest : slice_index_or l.own 0 None ≡ Some l.first;
      kept : AreFirst given l.spec l.slot l.own;
      stored : g.B.Bank.tells → AreStored given l.slot l.own (present given now);
      rows : g.B.Bank.tells → (s k : ℕ) → k ≢ 8 → present given now s k ≡ present given before s k;
      done : g.B.Bank.tells → AreSlotsDone given.start l.slot before now;
      tape : g.B.Bank.tells → OnlyBelow l.slot before now;
      counts : OnlyFirstFail l.slot (g.B.Bank.faults_of l.fn.bank) (g.B.Bank.faults_of l.bank);
    }
