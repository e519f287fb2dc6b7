use Rattle.std.proofs.Common.{◌≡◌, ◌⊎◌, ◌-◌, ◌<◌, ◌≤◌, ℕ}
use Rattle.reshape_begin_end.specs.bank_Given.{NeverFalls}
use Rattle.reshape_begin_end.specs.bank_Tape.{EachMark, disk}
use Rattle.raid_layout.specs.raid_types_the_Span.{Span}
use Rattle.raid_layout.specs.raid_types_Sectors.{Sector}
use Rattle.reshape_begin_end.specs.stripe_row_Rows.{present, reading_of}
use Rattle.reshape_begin_end.specs.stripe_list_Writing.{IsFull, IsRowKept}
use Rattle.reshape_window_rows.specs.Copies.{IsCopied, IsOwnRow, IsChangedAt, IsRowsPlace}
use Rattle.reshape_window_rows.proofs.stripes.copy_rows.Given as goal

abbrev pub decreases-loop-row : goal.decreases-loop-row
decreases-loop-row g l = l.to - l.row

abbrev pub invariant-loop-row : goal.invariant-loop-row
invariant-loop-row g l = record {
  reached : l.from ≤ l.row;
  within : l.row ≤ l.to;
  marks : EachMark g.B.Bank.tells (g.B.Bank.given l.fn.bank).start (g.B.Bank.tape l.fn.bank) (g.B.Bank.tape l.bank)
      (IsChangedAt (IsRowsPlace (reading_of l.fn.members) l.from l.to) (disk (g.B.Bank.given l.fn.bank).start (g.B.Bank.tape l.fn.bank)));
  full : (tail : Span) (list : ℕ → Sector) → IsCopied l.span l.buffer tail list → g.B.Bank.tells → (row : ℕ) → l.from ≤ row → row < l.row → IsOwnRow l.shape l.span tail row
      → IsFull (reading_of l.members) (present (g.B.Bank.given l.bank) (g.B.Bank.tape l.bank)) l.shape list row;
  others : g.B.Bank.tells → (row : ℕ) → (row < l.from) ⊎ (l.row ≤ row)
      → IsRowKept (reading_of l.members) (present (g.B.Bank.given l.fn.bank) (g.B.Bank.tape l.fn.bank)) (present (g.B.Bank.given l.bank) (g.B.Bank.tape l.bank)) row;
  members : l.members ≡ l.fn.members;
  given : g.B.Bank.given l.bank ≡ g.B.Bank.given l.fn.bank;
  never_falls : NeverFalls (g.B.Bank.faults_of l.fn.bank) (g.B.Bank.faults_of l.bank);
}
