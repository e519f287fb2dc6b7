use Rattle.std.proofs.Common.{◌≡◌, ◌+◌, ◌-◌, ◌<◌, ◌≤◌, ◌∷◌, ℕ, true}
use Rattle.std.specs.Prelude.{slice_index}
use Rattle.raid_layout.specs.raid_types_Shapes.{has_slot}
use Rattle.raid_parity_simd.specs.Buffers.{buffered}
use Rattle.stripe_row.specs.bank_Given.{NeverFalls}
use Rattle.stripe_row.specs.bank_Tape.{EachMark, disk}
use Rattle.stripe_runs.specs.Writing.{IsGaining, IsSlotSector}
use Rattle.stripe_runs.proofs.writes.write_due.Given as goal

abbrev pub invariant-loop-from : goal.invariant-loop-from
invariant-loop-from g l = record {
  high : l.from ≤ l.run.count;
  here : l.from < l.run.count → has_slot (slice_index l.due l.from) l.role ≡ true;
  marks : EachMark g.B.Bank.tells (g.B.Bank.given l.fn.bank).start (g.B.Bank.tape l.fn.bank) (g.B.Bank.tape l.bank)
      (IsGaining (IsSlotSector l.slot l.at 0 l.from (λ j. has_slot (slice_index l.due j) l.role) (λ j. buffered l.buffer (l.run.at + j) l.role))
      (disk (g.B.Bank.given l.fn.bank).start (g.B.Bank.tape l.fn.bank)));
  written : g.B.Bank.tells → (j : ℕ) → j < l.from → has_slot (slice_index l.due j) l.role ≡ true
      → disk (g.B.Bank.given l.fn.bank).start (g.B.Bank.tape l.bank) l.slot (l.at + j)
      ≡ buffered l.buffer (l.run.at + j) l.role ∷ disk (g.B.Bank.given l.fn.bank).start (g.B.Bank.tape l.fn.bank) l.slot (l.at + j);
  given : g.B.Bank.given l.bank ≡ g.B.Bank.given l.fn.bank;
  never_falls : NeverFalls (g.B.Bank.faults_of l.fn.bank) (g.B.Bank.faults_of l.bank);
}

abbrev pub decreases-loop-from : goal.decreases-loop-from
decreases-loop-from g l = l.run.count - l.from
