use Rattle.std.proofs.Common.{◌≡◌, ◌*◌, ◌<◌, ℕ, length}
use Rattle.sb_specs.specs.bank_Given.{NeverFalls}
use Rattle.stripe_row.specs.Rows.{present, reading_of, HasSector, HaveFailed}
use Rattle.stripe_row.proofs.read.read_held.Given as goal

abbrev pub invariant-loop-role : goal.invariant-loop-role
invariant-loop-role g l = record {
  size : length l.into ≡ 512 * l.shape.disks;
  sectors : g.B.Bank.tells → (role : ℕ) → role < l.role
      → HasSector (present (g.B.Bank.given l.initial.bank) (g.B.Bank.tape l.initial.bank)) (reading_of l.members) l.row l.lost l.into role;
  failed : HaveFailed (reading_of l.members) l.shape.disks l.lost (g.B.Bank.faults_of l.initial.bank) (g.B.Bank.faults_of l.bank);
  tape : g.B.Bank.tells → g.B.Bank.tape l.bank ≡ g.B.Bank.tape l.initial.bank;
  given : g.B.Bank.given l.bank ≡ g.B.Bank.given l.initial.bank;
  never_falls : NeverFalls (g.B.Bank.faults_of l.initial.bank) (g.B.Bank.faults_of l.bank);
}
