use Rattle.std.proofs.Common.{◌≡◌, ◌+◌, ◌≤◌, ℕ, bit_or, inl, inr, refl, sym, ap, ◌∙◌, subst, arith}
use Rattle.std.proofs.lemmas.Bool.{cases_eq}
use Rattle.reshape_begin_end.specs.bank_Tape.{disk}
use Rattle.raid_layout.proofs.Limits.{limited}
use Rattle.reshape_begin_end.specs.sb_specs_the_Members.{Members}
use Rattle.reshape_begin_end.specs.stripe_row_Rows.{present, reading_of}
use Rattle.reshape_begin_end.proofs.stripe_row_Turns.{marks_last}
use Rattle.reshape_begin_end.specs.stripe_list_Buffers.{buffered}
use Rattle.reshape_begin_end.proofs.stripe_list_LossLaws.{none_lost, lost_then, rows_by}
use Rattle.reshape_window_rows.specs.Copies.{IsChangedAt, IsRowsPlace}
use Rattle.reshape_window_rows.specs.Runs.{reach, HasRun, IsRolePlace}
use Rattle.reshape_window_rows.proofs.RunLaws.{marks_same, marks_then, role_rows, apart_by, run_kept, run_fewer, reach_within, reach_falls}
use Rattle.reshape_window_rows.proofs.runs.write_parts.Goals as goal

pub loop-role-init : goal.loop-role-init
loop-role-init g c = record {
  lost = none_lost c.args.shape.now c.args.members.now (g.B.Bank.faults_of c.args.bank.now) (g.B.Bank.faults_of c.args.bank.now) (λ s. omega arith);
  marks = marks_same (g.B.Bank.given c.args.bank.now).start (IsRowsPlace (reading_of c.args.members.now) c.args.from (c.args.from + c.args.count)) (g.B.Bank.tape c.args.bank.now);
  written = λ told role lt. absurd (omega (arith, lt));
  given = refl;
}

pub write_part-more-requires-clause-rows : goal.write_part-more-requires-clause-rows
write_part-more-requires-clause-rows g c = let was = c.loop-role.invariant in rows_by c.args.members.now c.loop-role.lost was.given was.lost.members c.requires.rows

pub write_part-more-requires-clause-small : goal.write_part-more-requires-clause-small
write_part-more-requires-clause-small g c = let few = (limited c.args.shape.now c.requires.rows.valid).most in omega (arith, few, c.loop-role-test.true)

pub write_part-more-requires-clause-some : goal.write_part-more-requires-clause-some
write_part-more-requires-clause-some g c = let some = (reach_within c.loop-role.lost c.args.count c.requires.some).0 in omega (arith, some, c.reach-some.ensures)

pub write_part-more-requires-clause-few : goal.write_part-more-requires-clause-few
write_part-more-requires-clause-few g c = let le = (reach_within c.loop-role.lost c.args.count c.requires.some).1 in omega (arith, le, c.reach-some.ensures, c.requires.few)

pub write_part-more-requires-clause-below : goal.write_part-more-requires-clause-below
write_part-more-requires-clause-below g c =
    let le = (reach_within c.loop-role.lost c.args.count c.requires.some).1 in
    let size = ap (λ (m : Members). m.newest.size) c.loop-role.invariant.lost.members in
    omega (arith, le, size, c.reach-some.ensures, c.requires.below)

pub write_part-more-requires-clause-room : goal.write_part-more-requires-clause-room
write_part-more-requires-clause-room g c = let le = (reach_within c.loop-role.lost c.args.count c.requires.some).1 in omega (arith, le, c.reach-some.ensures, c.requires.room)

pub loop-role-preserved : goal.loop-role-preserved
loop-role-preserved g c =
    let was = c.loop-role.invariant in
    let did = c.write_part-more.ensures in
    let old = c.args.members.now in
    let mid = c.loop-role.members in
    let new = c.write_part-more.new.members in
    let a = c.loop-role.lost in
    let b = c.write_part-more.result in
    let from = c.args.from in
    let count = c.args.count in
    let role = c.loop-role.role in
    let n = c.reach-some.result in
    let rows = c.args.rows.now in
    let given0 = g.B.Bank.given c.args.bank.now in
    let given1 = g.B.Bank.given c.loop-role.bank in
    let given2 = g.B.Bank.given c.write_part-more.new.bank in
    let tape1 = g.B.Bank.tape c.loop-role.bank in
    let tape2 = g.B.Bank.tape c.write_part-more.new.bank in
    let is : n ≡ reach a count = c.reach-some.ensures in
    let le : n ≤ count = (let most = (reach_within a count c.requires.some).1 in omega (arith, most, is)) in
    let falls : reach (bit_or a b) count ≤ reach a count = reach_falls a b count c.requires.some in
    record {
      lost = lost_then was.lost did.lost;
      marks = marks_then given0 given1 (IsRowsPlace (reading_of old) from (from + count)) (IsRolePlace (reading_of mid) role from n) (g.B.Bank.tape c.args.bank.now) tape1 tape2 was.given
          (role_rows old mid a role from n count was.lost.members le) was.marks did.each_mark;
      written = λ told other lt. elim (cases_eq other role) [
        | inl same ↦ subst (λ (k : ℕ). HasRun (reading_of new) (present given2 tape2) k from (reach (bit_or a b) count) (λ i. buffered rows i k)) (sym same)
            (run_fewer (reading_of new) (present given2 tape2) role from n (reach (bit_or a b) count) (λ i. buffered rows i role) (omega (arith, is, falls)) (did.written told))
        | inr ne ↦ run_kept mid new b role other from (reach a count) (reach (bit_or a b) count) n given1 given2 tape1 tape2 (λ i. buffered rows i other) did.lost.members did.given
            (apart_by old mid a was.lost.members c.requires.apart) ne falls
            (marks_last {P = IsChangedAt (IsRolePlace (reading_of mid) role from n) (disk given1.start tape1)} did.each_mark told)
            (was.written told other (omega (arith, lt, ne)))
      ];
      given = did.given ∙ was.given;
    }

pub returns-clause-written : goal.returns-clause-written
returns-clause-written g c = λ told role lt. c.loop-role.invariant.written told role (omega (arith, lt, c.loop-role-test.false))
