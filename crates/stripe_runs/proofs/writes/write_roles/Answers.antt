use Rattle.std.proofs.Common.{◌+◌, ℕ, Bool, refl, ◌∙◌, subst, arith}
use Rattle.std.specs.Prelude.{slice_index}
use Rattle.raid_layout.specs.raid_types_Sectors.{Sector}
use Rattle.raid_layout.specs.raid_types_Shapes.{has_slot}
use Rattle.raid_parity_simd.specs.Buffers.{buffered}
use Rattle.stripe_row.specs.bank_Given.{Given}
use Rattle.stripe_row.specs.bank_Tape.{disk}
use Rattle.stripe_row.specs.Rows.{reading_of}
use Rattle.stripe_row.proofs.Losses.{failed_more}
use Rattle.stripe_row.proofs.sb_specs_SlotSets.{none_there}
use Rattle.stripe_row.proofs.Turns.{marks_last}
use Rattle.stripe_runs.specs.Writing.{IsGaining, IsNewSector, HaveNewSectors}
use Rattle.stripe_runs.proofs.GainLaws.{marks_same}
use Rattle.stripe_runs.proofs.WriteLaws.{roles_marks, roles_written}
use Rattle.stripe_runs.proofs.writes.write_roles.Goals as goal

pub loop-role-init : goal.loop-role-init
loop-role-init g c = record {
  marks = marks_same (g.B.Bank.given c.args.bank.now).start (IsNewSector (reading_of c.args.members.now) 0 0 c.args.run.row c.args.run.count (λ j r. has_slot (slice_index c.args.due.now j) r)
      (λ j r. buffered c.args.buffer.now (c.args.run.at + j) r)) (g.B.Bank.tape c.args.bank.now);
  written = λ told role j s low high. absurd (omega (arith, high));
  failed = λ s gone. absurd (let e = none_there s in cc);
  given = refl;
  never_falls = λ s. omega arith;
}

pub loop-role-preserved : goal.loop-role-preserved
loop-role-preserved g c =
    let was = c.loop-role.invariant in
    let did = c.write_role-lost.ensures in
    let r = reading_of c.args.members.now in
    let n = c.loop-role.role in
    let row = c.args.run.row in
    let count = c.args.run.count in
    let due : ℕ → ℕ → Bool = λ j role. has_slot (slice_index c.args.due.now j) role in
    let new : ℕ → ℕ → Sector = λ j role. buffered c.args.buffer.now (c.args.run.at + j) role in
    let given0 = g.B.Bank.given c.args.bank.now in
    let given1 = g.B.Bank.given c.loop-role.bank in
    let old = g.B.Bank.tape c.args.bank.now in
    let mid = g.B.Bank.tape c.loop-role.bank in
    let tape = g.B.Bank.tape c.write_role-lost.new.bank in
    record {
      marks = roles_marks r c.requires.apart n row count due new given0 given1 old mid tape was.given was.marks did.each_mark;
      written = λ told.
          roles_written r c.requires.apart n row count due new c.loop-role.lost c.write_role-lost.result (disk given0.start old) (disk given0.start mid) (disk given0.start tape) did.stay
          (marks_last {P = IsGaining (IsNewSector r 0 n row count due new) (disk given0.start old)} was.marks told)
          (subst (λ (g' : Given). IsGaining (IsNewSector r n (n + 1) row count due new) (disk g'.start mid) (disk g'.start tape)) was.given
          (marks_last {P = IsGaining (IsNewSector r n (n + 1) row count due new) (disk given1.start mid)} did.each_mark told))
          (was.written told)
          (subst (λ (g' : Given). HaveNewSectors r n (n + 1) row count due new c.write_role-lost.result (disk g'.start mid) (disk g'.start tape)) was.given (did.written told));
      failed = failed_more r n c.args.shape.now.disks c.loop-role.lost c.write_role-lost.result (g.B.Bank.faults_of c.args.bank.now)
          (g.B.Bank.faults_of c.loop-role.bank) (g.B.Bank.faults_of c.write_role-lost.new.bank) c.loop-role-test.true was.never_falls did.never_falls was.failed did.loss;
      given = did.given ∙ was.given;
      never_falls = λ s. omega (arith, was.never_falls s, did.never_falls s);
    }
