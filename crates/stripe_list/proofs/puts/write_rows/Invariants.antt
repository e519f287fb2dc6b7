use Rattle.std.proofs.Common.{◌≡◌, ◌≢◌, ◌<◌, ◌≤◌, ℕ, length}
use Rattle.std.specs.Prelude.{slice_index, Contains}
use Rattle.stripe_row.specs.bank_Given.{NeverFalls}
use Rattle.stripe_row.specs.bank_Tape.{EachMark, disk}
use Rattle.raid_layout.specs.raid_types_Sectors.{Sector}
use Rattle.stripe_row.specs.Rows.{present, reading_of}
use Rattle.stripe_list.specs.Buffers.{buffered}
use Rattle.stripe_list.specs.Writing.{IsWritten, AreDataFrom, IsFull, StaysRebuilt, IsRowKept, IsPutting}
use Rattle.stripe_list.proofs.puts.write_rows.Given as goal

abbrev pub invariant-loop-i : goal.invariant-loop-i
invariant-loop-i g l = record {
  marks : (list list' : ℕ → Sector) → IsWritten list list' l.first l.from → (g.B.Bank.tells → AreDataFrom l.from_row l.shape list l.rows l.fn.buffer)
      → EachMark g.B.Bank.tells (g.B.Bank.given l.fn.bank).start (g.B.Bank.tape l.fn.bank) (g.B.Bank.tape l.bank)
      (IsPutting (reading_of l.fn.members) l.shape list' (Contains l.rows) (disk (g.B.Bank.given l.fn.bank).start (g.B.Bank.tape l.fn.bank)));
  done : (list list' : ℕ → Sector) → IsWritten list list' l.first l.from → g.B.Bank.tells → AreDataFrom l.from_row l.shape list l.rows l.fn.buffer
      → (i : ℕ) → l.from_row ≤ i → i < l.i → IsFull (reading_of l.members) (present (g.B.Bank.given l.bank) (g.B.Bank.tape l.bank)) l.shape list' (slice_index l.rows i);
  rebuilt : (list list' : ℕ → Sector) → IsWritten list list' l.first l.from → g.B.Bank.tells → AreDataFrom l.from_row l.shape list l.rows l.fn.buffer
      → (i : ℕ) → l.from_row ≤ i → i < l.i → StaysRebuilt (reading_of l.members)
      (present (g.B.Bank.given l.fn.bank) (g.B.Bank.tape l.fn.bank)) (present (g.B.Bank.given l.bank) (g.B.Bank.tape l.bank)) l.shape list list' (slice_index l.rows i);
  others : g.B.Bank.tells → (row : ℕ) → ((i : ℕ) → l.from_row ≤ i → i < l.i → slice_index l.rows i ≢ row)
      → IsRowKept (reading_of l.members) (present (g.B.Bank.given l.fn.bank) (g.B.Bank.tape l.fn.bank)) (present (g.B.Bank.given l.bank) (g.B.Bank.tape l.bank)) row;
  ahead : (i role : ℕ) → l.i ≤ i → i < length l.rows → role < l.shape.disks → buffered l.buffer i role ≡ buffered l.fn.buffer i role;
  members : l.members ≡ l.fn.members;
  given : g.B.Bank.given l.bank ≡ g.B.Bank.given l.fn.bank;
  never_falls : NeverFalls (g.B.Bank.faults_of l.fn.bank) (g.B.Bank.faults_of l.bank);
}
