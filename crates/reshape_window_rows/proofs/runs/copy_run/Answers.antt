use Rattle.std.proofs.Common.{◌≡◌, ◌+◌, ◌-◌, ℕ, sym, subst, arith}
use Rattle.reshape_begin_end.specs.bank_Tape.{disk}
use Rattle.reshape_begin_end.specs.stripe_row_Rows.{present, reading_of}
use Rattle.reshape_begin_end.proofs.stripe_row_Turns.{marks_last}
use Rattle.reshape_begin_end.specs.stripe_list_Writing.{IsFull}
use Rattle.reshape_window_rows.specs.Copies.{IsChangedAt, IsOwnRow, IsRowsPlace}
use Rattle.reshape_window_rows.specs.Runs.{reach}
use Rattle.reshape_window_rows.proofs.RunLaws.{reach_within, runs_full, rows_kept}
use Rattle.reshape_window_rows.proofs.runs.copy_run.Goals as goal

pub returns-clause-full : goal.returns-clause-full
returns-clause-full g c = λ tail list copied told row low high own.
    let i = row - c.args.from in
    let shape = c.args.shape.now in
    let most = (reach_within c.write_parts.result c.args.count c.requires.some).1 in
    let at : row ≡ c.args.from + i = omega (arith, low) in
    let r = reading_of c.write_parts.new.members in
    let after = present (g.B.Bank.given c.write_parts.new.bank) (g.B.Bank.tape c.write_parts.new.bank) in
    subst (λ (k : ℕ). IsFull r after shape list k) (sym at)
    (runs_full r after shape list c.args.from i (reach c.write_parts.result c.args.count) c.make_rows.new.rows (omega (arith, low, high)) (c.write_parts.ensures.written told)
    (c.make_rows.ensures.full tail list copied i (omega (arith, low, high, most)) (subst (λ (k : ℕ). IsOwnRow shape c.args.span.now tail k) at own)))

pub returns-clause-others : goal.returns-clause-others
returns-clause-others g c = λ told.
    let given = g.B.Bank.given c.args.bank.now in
    let old = g.B.Bank.tape c.args.bank.now in
    let r = reading_of c.args.members.now in
    rows_kept r c.args.from (c.args.from + c.args.count) given (g.B.Bank.given c.write_parts.new.bank) old (g.B.Bank.tape c.write_parts.new.bank) c.write_parts.ensures.given
    (marks_last {P = IsChangedAt (IsRowsPlace r c.args.from (c.args.from + c.args.count)) (disk given.start old)} c.write_parts.ensures.each_mark told)
