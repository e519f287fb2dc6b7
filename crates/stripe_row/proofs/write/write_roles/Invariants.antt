use Rattle.sb_specs.specs.bank_Given.{NeverFalls}
use Rattle.sb_specs.specs.bank_Tape.{EachMark, disk}
use Rattle.raid_parity_simd.specs.raid_parity_Rows.{sector_of}
use Rattle.std.proofs.Common.{◌≡◌}
use Rattle.stripe_row.specs.Rows.{reading_of, HaveFailed}
use Rattle.stripe_row.specs.Writes.{slot_in, place_on, IsWritingTo, AreWrittenTo}
use Rattle.stripe_row.proofs.write.write_roles.Given as goal

abbrev pub invariant-loop-role : goal.invariant-loop-role
invariant-loop-role g l = record {
  marks : EachMark g.B.Bank.tells (g.B.Bank.given l.initial.bank).start (g.B.Bank.tape l.initial.bank) (g.B.Bank.tape l.bank)
      (IsWritingTo l.role (slot_in (reading_of l.members) l.due) (place_on (reading_of l.members) l.row) (sector_of l.bytes)
      (disk (g.B.Bank.given l.initial.bank).start (g.B.Bank.tape l.initial.bank)));
  written : g.B.Bank.tells → AreWrittenTo l.role (slot_in (reading_of l.members) l.due) (place_on (reading_of l.members) l.row) (sector_of l.bytes) l.lost
      (disk (g.B.Bank.given l.initial.bank).start (g.B.Bank.tape l.initial.bank)) (disk (g.B.Bank.given l.initial.bank).start (g.B.Bank.tape l.bank));
  failed : HaveFailed (reading_of l.members) l.shape.disks l.lost (g.B.Bank.faults_of l.initial.bank) (g.B.Bank.faults_of l.bank);
  given : g.B.Bank.given l.bank ≡ g.B.Bank.given l.initial.bank;
  never_falls : NeverFalls (g.B.Bank.faults_of l.initial.bank) (g.B.Bank.faults_of l.bank);
}
