use Rattle.std.proofs.Common.{◌≡◌, ◌+◌, ◌-◌, ◌*◌, ◌<◌, ◌≤◌, ℕ, length, inl, inr, refl, sym, ◌∙◌, subst, arith}
use Rattle.std.proofs.lemmas.Bool.{cases_eq}
use Rattle.std.specs.Prelude.{slice_index}
use borrow.Rule.Slice.PartMut.{put_mid}
use Rattle.raid_layout.proofs.Limits.{limited}
use Rattle.stripe_row.specs.sb_specs_the_Members.{Members}
use Rattle.stripe_row.specs.raid_parity_Rows.{sector_of}
use Rattle.stripe_row.specs.Rows.{present, reading_of}
use Rattle.stripe_list.specs.Buffers.{buffered, IsRowRead}
use Rattle.stripe_list.proofs.BufferLaws.{read_later, read_since}
use Rattle.stripe_list.proofs.Elements.{contains-at}
use Rattle.stripe_list.proofs.ListLaws.{at_ok, tolerated_ok, present_same}
use Rattle.stripe_list.proofs.LossLaws.{none_lost, lost_then, rows_by, row_in}
use Rattle.stripe_list.proofs.PartBytes.{sector-part_here, sector-part_other}
use Rattle.stripe_list.proofs.buffers.read_rows.Goals as goal

pub returns-in-Err-clause-lost : goal.returns-in-Err-clause-lost
returns-in-Err-clause-lost g c = none_lost c.args.shape.now c.args.members.now (g.B.Bank.faults_of c.args.bank.now) (g.B.Bank.faults_of c.args.bank.now) (λ s. omega arith)

pub loop-i-init : goal.loop-i-init
loop-i-init g c = record {
  lost = none_lost c.args.shape.now c.args.members.now (g.B.Bank.faults_of c.args.bank.now) (g.B.Bank.faults_of c.args.bank.now) (λ s. omega arith);
  tolerated = tolerated_ok c.args.shape.now c.args.synced (reading_of c.args.members.now) _ c.check.result c.in_default.is c.check.ensures.answer;
  whole = at_ok c.check.result c.in_default.is c.check.ensures.whole;
  read = λ told i lt. absurd (omega (arith, lt));
  tape = λ told. refl;
  given = refl;
}

pub read_whole-one-requires-clause-row : goal.read_whole-one-requires-clause-row
read_whole-one-requires-clause-row g c =
    let was = c.loop-i.invariant in
    let row = slice_index c.args.rows.now c.loop-i.i in
    row_in (rows_by c.args.members.now c.loop-i.lost was.given was.lost.members c.requires.rows)
    (subst (λ (m : Members). row < m.newest.size) (sym was.lost.members) (c.requires.below row (contains-at c.args.rows.now c.loop-i.i c.loop-i-test.true)))

pub loop-i-preserved : goal.loop-i-preserved
loop-i-preserved g c =
    let was = c.loop-i.invariant in
    let did = c.read_whole-one.ensures in
    let shape = c.args.shape.now in
    let synced = c.args.synced in
    let old = c.args.members.now in
    let mid = c.loop-i.members in
    let new = c.read_whole-one.new.members in
    let before = present (g.B.Bank.given c.args.bank.now) (g.B.Bank.tape c.args.bank.now) in
    let between = present (g.B.Bank.given c.loop-i.bank) (g.B.Bank.tape c.loop-i.bank) in
    let rows = c.args.rows.now in
    let row = slice_index rows c.loop-i.i in
    let few : shape.disks ≤ 16 = (limited shape c.requires.rows.valid).most in
    let part = c.read_whole-one.new.into in
    let within : 8192 * c.loop-i.i + 512 * shape.disks ≤ length c.loop-i.buffer = omega (arith, c.loop-i.auto.buffer, c.requires.buffer, few, c.loop-i-test.true) in
    let size : length part ≡ 512 * shape.disks = omega (arith, c.read_whole-one.auto.into, within) in
    let buffer = put_mid (8192 * c.loop-i.i) (8192 * c.loop-i.i + 512 * shape.disks - 8192 * c.loop-i.i) c.loop-i.buffer part in
    record {
      lost = lost_then was.lost did.lost;
      tolerated = tolerated_ok shape synced (reading_of new) _ c.read_whole-one.result.answer c.in_default-answer.is did.answer;
      whole = at_ok c.read_whole-one.result.answer c.in_default-answer.is did.whole;
      read = λ told j lt. elim (cases_eq j c.loop-i.i) [
        | inl same ↦ subst (λ (k : ℕ). IsRowRead shape synced (reading_of old) (reading_of new) before (slice_index rows k) (buffered buffer k)) (sym same)
            (read_since shape synced (reading_of new) before between row (sector_of part) (buffered buffer c.loop-i.i) old c.loop-i.lost mid c.requires.rows.valid was.lost.members
            (present_same was.given (was.tape told)) (λ role is. sector-part_here c.loop-i.buffer part c.loop-i.i role (512 * shape.disks) (omega (arith, is)) within size)
            (at_ok c.read_whole-one.result.answer c.in_default-answer.is did.read told))
        | inr other ↦
            read_later shape synced (reading_of old) before (slice_index rows j) (buffered c.loop-i.buffer j) (buffered buffer j) mid c.read_whole-one.result.lost new c.requires.rows.valid did.lost.members
            (λ role is. sector-part_other c.loop-i.buffer part c.loop-i.i (16 * j + role) (512 * shape.disks) (omega (arith, few)) within size (inl (omega (arith, lt, other, is, few))))
            (was.read told j (omega (arith, lt, other)))
      ];
      tape = λ told. did.tape told ∙ was.tape told;
      given = did.given ∙ was.given;
    }

pub returns-in-Err-answer-clause-lost : goal.returns-in-Err-answer-clause-lost
returns-in-Err-answer-clause-lost g c = lost_then c.loop-i.invariant.lost c.read_whole-one.ensures.lost

pub returns-clause-read : goal.returns-clause-read
returns-clause-read g c = λ told i lt. c.loop-i.invariant.read told i (omega (arith, lt, c.loop-i-test.false))
