use Rattle.std.proofs.Common.{◌≡◌, ◌≢◌, ◌+◌, ◌<◌, ℕ}
use Rattle.array_found_laws.specs.raid_types_Sectors.{zero_sector}
use Rattle.bank.specs.Given.{NeverFalls}
use Rattle.bank.specs.Tape.{disk}
use Rattle.sb_add_spare.specs.stripe_row_Rows.{present}
use Rattle.array_create_assemble.specs.Filling.{OnlyBelow}
use Rattle.array_create_assemble.proofs.zeros.zero_member.Given as goal

abbrev pub invariant-loop-row : goal.invariant-loop-row
invariant-loop-row g l =
    let given = g.B.Bank.given l.fn.bank in
    record {
      same : g.B.Bank.given l.bank ≡ given;
      zero : g.B.Bank.tells → (row : ℕ) → row < l.row → present given (g.B.Bank.tape l.bank) l.slot (l.offset + row) ≡ zero_sector;
      apart : g.B.Bank.tells → (s k : ℕ) → s ≢ l.slot → disk given.start (g.B.Bank.tape l.bank) s k ≡ disk given.start (g.B.Bank.tape l.fn.bank) s k;
      tape : g.B.Bank.tells → OnlyBelow (l.slot + 1) (g.B.Bank.tape l.fn.bank) (g.B.Bank.tape l.bank);
      never_falls : NeverFalls (g.B.Bank.faults_of l.fn.bank) (g.B.Bank.faults_of l.bank);
      counts : (s : ℕ) → s ≢ l.slot → g.B.Bank.faults_of l.bank s ≡ g.B.Bank.faults_of l.fn.bank s;
    }
