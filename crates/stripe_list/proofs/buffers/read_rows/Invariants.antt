use Rattle.std.proofs.Common.{◌≡◌, ◌<◌, ℕ, false}
use Rattle.std.specs.Prelude.{slice_index}
use Rattle.stripe_row.specs.Rows.{present, reading_of, IsTolerated}
use Rattle.stripe_list.specs.Calls.{AreLost}
use Rattle.stripe_list.specs.Buffers.{buffered, IsDataWhole, IsRowRead}
use Rattle.stripe_list.proofs.buffers.read_rows.Given as goal

abbrev pub invariant-loop-i : goal.invariant-loop-i
invariant-loop-i g l = record {
  lost : AreLost l.shape l.fn.members l.members l.lost (g.B.Bank.faults_of l.fn.bank) (g.B.Bank.faults_of l.bank);
  tolerated : IsTolerated (reading_of l.members) l.shape;
  whole : l.synced ≡ false → IsDataWhole (reading_of l.members) l.shape;
  read : g.B.Bank.tells → (i : ℕ) → i < l.i → IsRowRead l.shape l.synced (reading_of l.fn.members) (reading_of l.members)
      (present (g.B.Bank.given l.fn.bank) (g.B.Bank.tape l.fn.bank)) (slice_index l.rows i) (buffered l.buffer i);
  tape : g.B.Bank.tells → g.B.Bank.tape l.bank ≡ g.B.Bank.tape l.fn.bank;
  given : g.B.Bank.given l.bank ≡ g.B.Bank.given l.fn.bank;
}
