use Rattle.std.proofs.Common.{◌≡◌, ◌+◌, ◌<◌, ℕ}
use Rattle.reshape_begin_end.specs.bank_Tape.{EachMark, disk}
use Rattle.reshape_begin_end.specs.stripe_row_Rows.{present, reading_of}
use Rattle.reshape_begin_end.specs.stripe_list_Buffers.{buffered}
use Rattle.reshape_begin_end.specs.stripe_list_Calls.{AreLost}
use Rattle.reshape_window_rows.specs.Copies.{IsChangedAt, IsRowsPlace}
use Rattle.reshape_window_rows.specs.Runs.{reach, HasRun}
use Rattle.reshape_window_rows.proofs.runs.write_parts.Given as goal

abbrev pub invariant-loop-role : goal.invariant-loop-role
invariant-loop-role g l = record {
  lost : AreLost l.shape l.fn.members l.members l.lost (g.B.Bank.faults_of l.fn.bank) (g.B.Bank.faults_of l.bank);
  marks : EachMark g.B.Bank.tells (g.B.Bank.given l.fn.bank).start (g.B.Bank.tape l.fn.bank) (g.B.Bank.tape l.bank)
      (IsChangedAt (IsRowsPlace (reading_of l.fn.members) l.from (l.from + l.count)) (disk (g.B.Bank.given l.fn.bank).start (g.B.Bank.tape l.fn.bank)));
  written : g.B.Bank.tells → (role : ℕ) → role < l.role
      → HasRun (reading_of l.members) (present (g.B.Bank.given l.bank) (g.B.Bank.tape l.bank)) role l.from (reach l.lost l.count) (λ i. buffered l.rows i role);
  given : g.B.Bank.given l.bank ≡ g.B.Bank.given l.fn.bank;
}
