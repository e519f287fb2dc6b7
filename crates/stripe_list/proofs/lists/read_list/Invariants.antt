use Rattle.std.proofs.Common.{◌≡◌, ◌+◌, ◌<◌, ℕ}
use Rattle.stripe_row.specs.raid_parity_Rows.{sector_of}
use Rattle.stripe_row.specs.Rows.{present, reading_of, IsTolerated}
use Rattle.stripe_list.specs.Calls.{AreLost, IsListed}
use Rattle.stripe_list.proofs.lists.read_list.Given as goal

abbrev pub invariant-loop-i : goal.invariant-loop-i
invariant-loop-i g l = record {
  lost : AreLost l.shape l.fn.members l.members l.lost (g.B.Bank.faults_of l.fn.bank) (g.B.Bank.faults_of l.bank);
  tolerated : IsTolerated (reading_of l.members) l.shape;
  sectors : g.B.Bank.tells → (i : ℕ) → i < l.i → IsListed l.shape l.synced (reading_of l.fn.members) (reading_of l.members)
      (present (g.B.Bank.given l.fn.bank) (g.B.Bank.tape l.fn.bank)) (l.first + i) (sector_of l.into i);
  tape : g.B.Bank.tells → g.B.Bank.tape l.bank ≡ g.B.Bank.tape l.fn.bank;
  given : g.B.Bank.given l.bank ≡ g.B.Bank.given l.fn.bank;
}
