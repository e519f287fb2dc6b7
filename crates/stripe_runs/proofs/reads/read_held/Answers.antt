use Rattle.std.proofs.Common.{ℕ, ◌+◌, inl, inr, sym, ◌∙◌, subst, arith}
use Rattle.std.proofs.lemmas.Bool.{cases_eq}
use Rattle.raid_parity_simd.specs.Buffers.{buffered}
use Rattle.stripe_row.specs.Rows.{present, reading_of}
use Rattle.stripe_row.proofs.Losses.{failed_more}
use Rattle.stripe_runs.specs.Runs.{IsHeldSector}
use Rattle.stripe_runs.proofs.ReadLaws.{sector_kept, sector_moved}
use Rattle.stripe_runs.proofs.reads.read_held.Goals as goal

pub loop-role-preserved : goal.loop-role-preserved
loop-role-preserved g c =
    let was = c.loop-role.invariant in
    let did = c.read_role-lost.ensures in
    let r = reading_of c.args.members.now in
    let given = g.B.Bank.given c.args.bank.now in
    let tape = g.B.Bank.tape c.args.bank.now in
    let run = c.args.run in
    let new = c.read_role-lost.new.buffer in
    let lost = c.read_role-lost.result in
    record {
      sectors = λ told role j lt within. elim (cases_eq role c.loop-role.role) [
        | inl same ↦ subst (λ (k : ℕ). IsHeldSector (present given tape) r lost k (run.row + j) (buffered new (run.at + j) k)) (sym same)
            (sector_moved given (g.B.Bank.given c.loop-role.bank) tape (g.B.Bank.tape c.loop-role.bank) r lost c.loop-role.role (run.row + j) (buffered new (run.at + j) c.loop-role.role)
            was.given (was.tape told) (did.here told j within))
        | inr apart ↦ sector_kept (present given tape) r c.loop-role.lost lost role (run.row + j) (buffered c.loop-role.buffer (run.at + j) role) (buffered new (run.at + j) role) did.stay
            (did.others (run.at + j) role (let rows = c.requires.room.rows in omega (arith, rows, within)) apart) (was.sectors told role j (omega (arith, lt, apart)) within)
      ];
      outside = λ i other low out. did.outside i other low out ∙ was.outside i other low out;
      failed = failed_more r c.loop-role.role c.args.shape.now.disks c.loop-role.lost lost (g.B.Bank.faults_of c.args.bank.now)
          (g.B.Bank.faults_of c.loop-role.bank) (g.B.Bank.faults_of c.read_role-lost.new.bank) c.loop-role-test.true was.never_falls did.never_falls was.failed did.loss;
      tape = λ told. did.tape told ∙ was.tape told;
      given = did.given ∙ was.given;
      never_falls = λ s. omega (arith, was.never_falls s, did.never_falls s);
    }
