use Rattle.std.proofs.Common.{◌≡◌, ◌+◌}
use Rattle.std.specs.Prelude.{slice_index}
use Rattle.raid_layout.specs.raid_types_Shapes.{has_slot}
use Rattle.raid_parity_simd.specs.Buffers.{buffered}
use Rattle.stripe_row.specs.bank_Given.{NeverFalls}
use Rattle.stripe_row.specs.bank_Tape.{EachMark, disk}
use Rattle.stripe_row.specs.Rows.{reading_of, HaveFailed}
use Rattle.stripe_runs.specs.Writing.{IsGaining, IsNewSector, HaveNewSectors}
use Rattle.stripe_runs.proofs.writes.write_roles.Given as goal

abbrev pub invariant-loop-role : goal.invariant-loop-role
invariant-loop-role g l = record {
  marks : EachMark g.B.Bank.tells (g.B.Bank.given l.initial.bank).start (g.B.Bank.tape l.initial.bank) (g.B.Bank.tape l.bank)
      (IsGaining (IsNewSector (reading_of l.members) 0 l.role l.run.row l.run.count (λ j r. has_slot (slice_index l.due j) r) (λ j r. buffered l.buffer (l.run.at + j) r))
      (disk (g.B.Bank.given l.initial.bank).start (g.B.Bank.tape l.initial.bank)));
  written : g.B.Bank.tells → HaveNewSectors (reading_of l.members) 0 l.role l.run.row l.run.count (λ j r. has_slot (slice_index l.due j) r) (λ j r. buffered l.buffer (l.run.at + j) r) l.lost
      (disk (g.B.Bank.given l.initial.bank).start (g.B.Bank.tape l.initial.bank)) (disk (g.B.Bank.given l.initial.bank).start (g.B.Bank.tape l.bank));
  failed : HaveFailed (reading_of l.members) l.shape.disks l.lost (g.B.Bank.faults_of l.initial.bank) (g.B.Bank.faults_of l.bank);
  given : g.B.Bank.given l.bank ≡ g.B.Bank.given l.initial.bank;
  never_falls : NeverFalls (g.B.Bank.faults_of l.initial.bank) (g.B.Bank.faults_of l.bank);
}
