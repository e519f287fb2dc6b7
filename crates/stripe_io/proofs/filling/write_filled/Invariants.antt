use Rattle.std.proofs.Common.{◌≡◌, ◌<◌, ◌≤◌, ℕ, length}
use Rattle.std.specs.Prelude.{slice_index, Contains}
use Rattle.sb_safe_updates.specs.bank_Given.{NeverFalls}
use Rattle.sb_safe_updates.specs.bank_Tape.{EachMark, disk}
use Rattle.sb_safe_updates.specs.raid_types_Sectors.{Sector}
use Rattle.sb_safe_updates.specs.stripe_row_Rows.{present, reading_of}
use Rattle.sb_safe_updates.specs.stripe_list_Buffers.{buffered}
use Rattle.sb_safe_updates.specs.stripe_list_Writing.{AreDataFrom, HasFull}
use Rattle.sb_safe_updates.specs.array_members_Moving.{Grows}
use Rattle.sb_safe_updates.specs.array_members_Rebuilding.{IsFilling, IsFilledAmong}
use Rattle.stripe_io.proofs.filling.write_filled.Given as goal

abbrev pub invariant-loop-i : goal.invariant-loop-i
invariant-loop-i g l = record {
  marks : EachMark g.B.Bank.tells (g.B.Bank.given l.fn.bank).start (g.B.Bank.tape l.fn.bank) (g.B.Bank.tape l.bank)
      (IsFilling l.members l.target.role l.target.slot (disk (g.B.Bank.given l.fn.bank).start (g.B.Bank.tape l.fn.bank)));
  done : g.B.Bank.tells → (list : ℕ → Sector) → AreDataFrom 0 l.shape list l.rows l.fn.buffer → (j : ℕ) → j < l.i → l.target.held ≤ slice_index l.rows j
      → HasFull (reading_of l.members) (present (g.B.Bank.given l.fn.bank) (g.B.Bank.tape l.bank)) l.shape list (slice_index l.rows j) l.target.role l.target.slot;
  others : g.B.Bank.tells → IsFilledAmong l.members l.target.role l.target.slot (Contains l.rows)
      (present (g.B.Bank.given l.fn.bank) (g.B.Bank.tape l.fn.bank)) (present (g.B.Bank.given l.fn.bank) (g.B.Bank.tape l.bank));
  ahead : (j role : ℕ) → l.i ≤ j → j < length l.rows → role < l.shape.disks → buffered l.buffer j role ≡ buffered l.fn.buffer j role;
  grows : Grows g.B.Bank.tells (g.B.Bank.tape l.fn.bank) (g.B.Bank.tape l.bank);
  given : g.B.Bank.given l.bank ≡ g.B.Bank.given l.fn.bank;
  never_falls : NeverFalls (g.B.Bank.faults_of l.fn.bank) (g.B.Bank.faults_of l.bank);
}
