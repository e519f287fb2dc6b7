use Rattle.std.proofs.Common.{◌≡◌, ◌+◌, ◌<◌, ℕ}
use Rattle.raid_parity_simd.specs.Buffers.{buffered, role_sectors}
use Rattle.raid_parity_simd.specs.Parts.{IsOutside}
use Rattle.stripe_row.specs.bank_Given.{NeverFalls}
use Rattle.stripe_row.specs.Rows.{present, reading_of, HaveFailed}
use Rattle.stripe_runs.specs.Runs.{IsHeldSector}
use Rattle.stripe_runs.proofs.reads.read_held.Given as goal

abbrev pub invariant-loop-role : goal.invariant-loop-role
invariant-loop-role g l = record {
  sectors : g.B.Bank.tells → (role j : ℕ) → role < l.role → j < l.run.count
      → IsHeldSector (present (g.B.Bank.given l.initial.bank) (g.B.Bank.tape l.initial.bank)) (reading_of l.members) l.lost role (l.run.row + j) (buffered l.buffer (l.run.at + j) role);
  outside : (i other : ℕ) → i < role_sectors → IsOutside l.run.at l.run.count i → buffered l.buffer i other ≡ buffered l.initial.buffer i other;
  failed : HaveFailed (reading_of l.members) l.shape.disks l.lost (g.B.Bank.faults_of l.initial.bank) (g.B.Bank.faults_of l.bank);
  tape : g.B.Bank.tells → g.B.Bank.tape l.bank ≡ g.B.Bank.tape l.initial.bank;
  given : g.B.Bank.given l.bank ≡ g.B.Bank.given l.initial.bank;
  never_falls : NeverFalls (g.B.Bank.faults_of l.initial.bank) (g.B.Bank.faults_of l.bank);
}
