use Rattle.std.proofs.Common.{ℕ, inl, inr, sym, ◌∙◌, subst, arith}
use Rattle.std.proofs.lemmas.Bool.{cases_eq}
use Rattle.stripe_row.specs.Rows.{present, reading_of, HasSector}
use Rattle.stripe_row.proofs.Losses.{sector_kept, sector_moved, failed_more}
use Rattle.stripe_row.proofs.read.read_held.Goals as goal

pub loop-role-preserved : goal.loop-role-preserved
loop-role-preserved g c =
    let was = c.loop-role.invariant in
    let did = c.read_role-lost.ensures in
    let r = reading_of c.args.members.now in
    let given = g.B.Bank.given c.args.bank.now in
    let tape = g.B.Bank.tape c.args.bank.now in
    record {
      size = omega (arith, was.size, c.read_role-lost.auto.into);
      sectors = λ told role lt. elim (cases_eq role c.loop-role.role) [
        | inl same ↦ subst (λ (k : ℕ). HasSector (present given tape) r c.args.row c.read_role-lost.result c.read_role-lost.new.into k) (sym same)
            (sector_moved given (g.B.Bank.given c.loop-role.bank) tape (g.B.Bank.tape c.loop-role.bank) r c.args.row c.read_role-lost.result c.loop-role.role c.read_role-lost.new.into
            was.given (was.tape told) (did.here told))
        | inr apart ↦ sector_kept (present given tape) r c.args.row c.loop-role.lost c.read_role-lost.result c.loop-role.into c.read_role-lost.new.into role did.stay (did.others role apart)
            (was.sectors told role (omega (arith, lt, apart)))
      ];
      failed = failed_more r c.loop-role.role c.args.shape.now.disks c.loop-role.lost c.read_role-lost.result (g.B.Bank.faults_of c.args.bank.now)
          (g.B.Bank.faults_of c.loop-role.bank) (g.B.Bank.faults_of c.read_role-lost.new.bank) c.loop-role-test.true was.never_falls did.never_falls was.failed did.loss;
      tape = λ told. did.tape told ∙ was.tape told;
      given = did.given ∙ was.given;
      never_falls = λ s. omega (arith, was.never_falls s, did.never_falls s);
    }
