use Rattle.std.proofs.Common.{◌≡◌, inl, inr, ◌+◌, ◌≤◌, ℕ, sym, ap, ◌∙◌, subst, arith}
use Rattle.reshape_begin_end.specs.sb_specs_the_Members.{Members}
use Rattle.reshape_begin_end.specs.stripe_row_Rows.{present}
use Rattle.reshape_begin_end.proofs.stripe_row_Written.{members_without-none}
use Rattle.reshape_begin_end.specs.stripe_list_Calls.{AreLost}
use Rattle.reshape_begin_end.proofs.stripe_list_LossLaws.{none_lost, rows_by}
use Rattle.reshape_begin_end.proofs.stripe_list_PutLaws.{none_then}
use Rattle.reshape_window_rows.specs.Runs.{reach}
use Rattle.reshape_window_rows.proofs.RunLaws.{reach_one}
use Rattle.reshape_window_rows.proofs.StripeLaws.{marks_more, full_more, kept_more}
use Rattle.reshape_window_rows.proofs.stripes.copy_rows.Goals as goal

pub copy_run-lost-requires-clause-rows : goal.copy_run-lost-requires-clause-rows
copy_run-lost-requires-clause-rows g c =
    let was = c.loop-row.invariant in
    rows_by c.args.members.now 0 was.given (was.members ∙ members_without-none c.args.members.now) c.requires.rows

pub copy_run-lost-requires-clause-below : goal.copy_run-lost-requires-clause-below
copy_run-lost-requires-clause-below g c =
    subst (λ (m : Members). c.loop-row.row + c.min-count.result ≤ m.newest.size) (sym c.loop-row.invariant.members) (omega (arith, c.requires.below, c.min-count.ensures, c.loop-row-test.true))

pub returns-then-lost-ne0-clause-each_mark : goal.returns-then-lost-ne0-clause-each_mark
returns-then-lost-ne0-clause-each_mark g c =
    let was = c.loop-row.invariant in
    marks_more (g.B.Bank.given c.args.bank.now) (g.B.Bank.given c.loop-row.bank) c.args.members.now c.loop-row.members c.args.from c.args.to c.loop-row.row (c.loop-row.row + c.min-count.result)
    (g.B.Bank.tape c.args.bank.now) (g.B.Bank.tape c.loop-row.bank) (g.B.Bank.tape c.copy_run-lost.new.bank) was.given was.members was.reached (omega (arith, c.min-count.ensures, c.loop-row-test.true))
    was.marks c.copy_run-lost.ensures.each_mark

pub returns-then-lost-ne0-clause-full : goal.returns-then-lost-ne0-clause-full
returns-then-lost-ne0-clause-full g c = λ tail list copied told.
    let did = c.copy_run-lost.ensures in
    let between = present (g.B.Bank.given c.loop-row.bank) (g.B.Bank.tape c.loop-row.bank) in
    let after = present (g.B.Bank.given c.copy_run-lost.new.bank) (g.B.Bank.tape c.copy_run-lost.new.bank) in
    let ne = c.if-lost-ne0.true in
    let one = reach_one c.copy_run-lost.result c.min-count.result (λ zero. omega (arith, ne, zero)) in
    full_more c.loop-row.members c.copy_run-lost.new.members c.copy_run-lost.result did.lost.members between between after c.args.shape.now c.args.from c.loop-row.row (c.loop-row.row + c.min-count.result)
    c.loop-row.invariant.reached (did.others told) c.args.span.now tail list (c.loop-row.row + 1) (c.loop-row.invariant.full tail list copied told)
    (λ r low high own. did.full tail list copied told r low (omega (arith, high, one)) own)

pub returns-then-lost-ne0-clause-others : goal.returns-then-lost-ne0-clause-others
returns-then-lost-ne0-clause-others g c = λ told row apart.
    let did = c.copy_run-lost.ensures in
    let was = c.loop-row.invariant in
    let before = present (g.B.Bank.given c.args.bank.now) (g.B.Bank.tape c.args.bank.now) in
    let between = present (g.B.Bank.given c.loop-row.bank) (g.B.Bank.tape c.loop-row.bank) in
    let after = present (g.B.Bank.given c.copy_run-lost.new.bank) (g.B.Bank.tape c.copy_run-lost.new.bank) in
    kept_more c.loop-row.members c.copy_run-lost.new.members c.copy_run-lost.result did.lost.members before between after c.args.shape.now c.args.from c.loop-row.row (c.loop-row.row + c.min-count.result)
    was.reached (did.others told) (omega arith) (was.others told) row (elim apart [ inl below ↦ inl below | inr above ↦ inr (omega (arith, above, c.min-count.ensures, c.loop-row-test.true)) ])

pub loop-row-preserved : goal.loop-row-preserved
loop-row-preserved g c =
    let was = c.loop-row.invariant in
    let did = c.copy_run-lost.ensures in
    let row = c.loop-row.row in
    let count = c.min-count.result in
    let mid = c.loop-row.members in
    let new = c.copy_run-lost.new.members in
    let lost = c.copy_run-lost.result in
    let shape = c.args.shape.now in
    let before = present (g.B.Bank.given c.args.bank.now) (g.B.Bank.tape c.args.bank.now) in
    let between = present (g.B.Bank.given c.loop-row.bank) (g.B.Bank.tape c.loop-row.bank) in
    let after = present (g.B.Bank.given c.copy_run-lost.new.bank) (g.B.Bank.tape c.copy_run-lost.new.bank) in
    let none : lost ≡ 0 = omega (arith, c.if-lost-ne0.false) in
    let within : row + count ≤ c.args.to = omega (arith, c.min-count.ensures, c.loop-row-test.true) in
    let all : reach lost count ≡ count = ap (λ (n : ℕ). reach n count) none in
    record {
      reached = let reached = was.reached in omega (arith, reached);
      within = within;
      marks = marks_more (g.B.Bank.given c.args.bank.now) (g.B.Bank.given c.loop-row.bank) c.args.members.now mid c.args.from c.args.to row (row + count)
          (g.B.Bank.tape c.args.bank.now) (g.B.Bank.tape c.loop-row.bank) (g.B.Bank.tape c.copy_run-lost.new.bank) was.given was.members was.reached within was.marks did.each_mark;
      full = λ tail list copied told. full_more mid new lost did.lost.members between between after shape c.args.from row (row + count) was.reached (did.others told) c.args.span.now tail list (row + count)
          (was.full tail list copied told) (λ r low high own. did.full tail list copied told r low (omega (arith, high, all)) own);
      others = λ told. kept_more mid new lost did.lost.members before between after shape c.args.from row (row + count) was.reached (did.others told) (omega arith) (was.others told);
      members = none_then mid new lost did.lost.members none ∙ was.members;
      given = did.given ∙ was.given;
      never_falls = λ s. omega (arith, was.never_falls s, did.lost.never_falls s);
    }

pub returns-clause-lost : goal.returns-clause-lost
returns-clause-lost g c =
    subst (λ (m : Members). AreLost c.args.shape.now c.args.members.now m 0 (g.B.Bank.faults_of c.args.bank.now) (g.B.Bank.faults_of c.loop-row.bank)) (sym c.loop-row.invariant.members)
    (none_lost c.args.shape.now c.args.members.now (g.B.Bank.faults_of c.args.bank.now) (g.B.Bank.faults_of c.loop-row.bank) c.loop-row.invariant.never_falls)

pub returns-clause-full : goal.returns-clause-full
returns-clause-full g c = λ tail list copied told row low high.
    let within = c.loop-row.invariant.within in
    c.loop-row.invariant.full tail list copied told row low (omega (arith, high, c.loop-row-test.false))

pub returns-clause-others : goal.returns-clause-others
returns-clause-others g c = λ told row apart.
    let within = c.loop-row.invariant.within in
    c.loop-row.invariant.others told row (elim apart [ inl below ↦ inl below | inr above ↦ inr (omega (arith, above, within)) ])
