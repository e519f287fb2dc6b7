use Rattle.std.proofs.Common.{◌≡◌, ◌*◌, ◌/◌, ℕ, length, ◌∙◌, subst, arith}
use Rattle.std.proofs.lemmas.List.{length-take-le}
use Rattle.reshape_begin_end.specs.bank_Tape.{EachMark, disk}
use Rattle.reshape_begin_end.specs.stripe_row_Rows.{reading_of}
use Rattle.reshape_window_rows.specs.Copies.{IsChangedAt}
use Rattle.reshape_window_rows.specs.Runs.{IsRolePlace}
use Rattle.reshape_window_rows.proofs.runs.write_part.Goals as goal

pub gather-requires-clause-room : goal.gather-requires-clause-room
gather-requires-clause-room g c =
    let long = length-take-le (512 * c.args.count) c.args.scratch.now (omega (arith, c.requires.few, c.requires.scratch)) in
    omega (arith, long, c.requires.room)

pub write_run-requires-clause-whole : goal.write_run-requires-clause-whole
write_run-requires-clause-whole g c =
    let long = length-take-le (512 * c.args.count) c.args.scratch.now (omega (arith, c.requires.few, c.requires.scratch)) in
    let same = c.gather.auto.into in
    omega (arith, long, same)

pub write_run-requires-clause-some : goal.write_run-requires-clause-some
write_run-requires-clause-some g c =
    let long = length-take-le (512 * c.args.count) c.args.scratch.now (omega (arith, c.requires.few, c.requires.scratch)) in
    let same = c.gather.auto.into in
    omega (arith, long, same, c.requires.some)

pub write_run-requires-clause-below : goal.write_run-requires-clause-below
write_run-requires-clause-below g c =
    let long = length-take-le (512 * c.args.count) c.args.scratch.now (omega (arith, c.requires.few, c.requires.scratch)) in
    let same = c.gather.auto.into in
    omega (arith, long, same, c.requires.below)

pub returns-clause-each_mark : goal.returns-clause-each_mark
returns-clause-each_mark g c =
    let start = (g.B.Bank.given c.args.bank.now).start in
    let old = g.B.Bank.tape c.args.bank.now in
    let long = length-take-le (512 * c.args.count) c.args.scratch.now (omega (arith, c.requires.few, c.requires.scratch)) in
    let same = c.gather.auto.into in
    let n : length c.gather.new.into / 512 ≡ c.args.count = omega (arith, long, same) in
    subst (λ (k : ℕ). EachMark g.B.Bank.tells start old (g.B.Bank.tape c.write_run.new.bank) (IsChangedAt (IsRolePlace (reading_of c.args.members.now) c.args.role c.args.from k) (disk start old))) n
    c.write_run.ensures.each_mark

pub returns-clause-written : goal.returns-clause-written
returns-clause-written g c = λ told slot i held lt.
    let long = length-take-le (512 * c.args.count) c.args.scratch.now (omega (arith, c.requires.few, c.requires.scratch)) in
    let same = c.gather.auto.into in
    c.write_run.ensures.written told slot i held (omega (arith, long, same, lt)) ∙ c.gather.ensures i (omega (arith, long, lt))
