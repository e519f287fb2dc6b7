use Rattle.std.proofs.Common.{◌≡◌, ℕ, Option, Some, ◌∙◌, arith}
use Rattle.sb_specs.specs.raid_types_Sectors.{Sector}
use Rattle.raid_parity_simd.specs.raid_parity_Rows.{sector_of}
use Rattle.stripe_row.specs.Rows.{reading_of}
use Rattle.sb_specs.specs.bank_Tape.{disk}
use Rattle.stripe_row.specs.Writes.{slot_in, place_on, IsWritingTo}
use Rattle.stripe_row.proofs.Losses.{failed_more}
use Rattle.stripe_row.proofs.Turns.{slots_apart, marks_more, marks_last, written_more}
use Rattle.stripe_row.proofs.write.write_roles.Goals as goal

pub loop-role-preserved : goal.loop-role-preserved
loop-role-preserved g c =
    let was = c.loop-role.invariant in
    let did = c.write_role-lost.ensures in
    let r = reading_of c.args.members.now in
    let slot_of : ℕ → Option ℕ = slot_in r c.args.due in
    let at : ℕ → ℕ = place_on r c.args.row in
    let new : ℕ → Sector = sector_of c.args.bytes.now in
    let apart : (a b s : ℕ) → slot_of a ≡ Some s → slot_of b ≡ Some s → a ≡ b = slots_apart r c.args.due c.requires.apart in
    let start = (g.B.Bank.given c.args.bank.now).start in
    let old = g.B.Bank.tape c.args.bank.now in
    let mid = g.B.Bank.tape c.loop-role.bank in
    let tape = g.B.Bank.tape c.write_role-lost.new.bank in
    let last = λ (told : g.B.Bank.tells). marks_last {P = IsWritingTo c.loop-role.role slot_of at new (disk start old)} was.marks told in
    record {
      marks = marks_more slot_of at new apart start c.loop-role.role c.loop-role.lost c.write_role-lost.result old mid tape was.marks last did.tape;
      written = λ told.
          let turn = did.tape told in
          written_more slot_of at new apart start c.loop-role.role c.loop-role.lost c.write_role-lost.result old mid tape turn.0 did.stay (last told) (was.written told) turn.1 turn.2;
      failed = failed_more r c.loop-role.role c.args.shape.now.disks c.loop-role.lost c.write_role-lost.result (g.B.Bank.faults_of c.args.bank.now)
          (g.B.Bank.faults_of c.loop-role.bank) (g.B.Bank.faults_of c.write_role-lost.new.bank) c.loop-role-test.true was.never_falls did.never_falls was.failed did.loss;
      given = did.given ∙ was.given;
      never_falls = λ s. omega (arith, was.never_falls s, did.never_falls s);
    }
