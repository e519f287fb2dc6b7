use Rattle.std.proofs.Common.{◌≡◌, ◌+◌, ◌-◌, ◌*◌, ◌<◌, ◌∷◌, ℕ, List, Bool, true, false, refl, sym, ap, ◌∙◌, subst, arith}
use Rattle.std.specs.Prelude.{slice_index, is_err}
use Rattle.raid_layout.specs.raid_types_Sectors.{Sector}
use Rattle.raid_layout.specs.raid_types_Shapes.{has_slot}
use Rattle.raid_parity_simd.specs.Buffers.{buffered, role_sectors}
use Rattle.stripe_row.specs.bank_Given.{Given, IsPlace}
use Rattle.stripe_row.specs.bank_Tape.{EachMark, disk}
use Rattle.stripe_row.specs.raid_parity_Rows.{sector_of}
use Rattle.stripe_row.proofs.bank_Causes.{faulted_longer}
use Rattle.stripe_row.proofs.Turns.{marks_last}
use Rattle.stripe_runs.specs.Writing.{IsGaining, IsSlotSector}
use Rattle.stripe_runs.proofs.GainLaws.{marks_same}
use Rattle.stripe_runs.proofs.WriteLaws.{stretch_some, stretch_marks, stretch_written}
use Rattle.stripe_runs.proofs.writes.write_due.Goals as goal

-- a row that isn't due
idle_due : {A : Type 0} (b : Bool) → b ≡ false → b ≡ true → A
idle_due b idle is_due = absurd (cc)

same_place : (buffer : List ℕ) (base at from j : ℕ) → sector_of buffer (base + at + from + j) ≡ sector_of buffer (base + (at + (from + j)))
same_place buffer base at from j = let place : base + at + from + j ≡ base + (at + (from + j)) = omega arith in ap (sector_of buffer) place

pub loop-from-init : goal.loop-from-init
loop-from-init g c =
    let first = c.next_row-from.ensures in
    record {
      high = first.high;
      here = first.here;
      marks = marks_same (g.B.Bank.given c.args.bank.now).start (IsSlotSector c.args.slot c.args.at 0 c.next_row-from.result (λ j. has_slot (slice_index c.args.due.now j) c.args.role)
          (λ j. buffered c.args.buffer.now (c.args.run.at + j) c.args.role)) (g.B.Bank.tape c.args.bank.now);
      written = λ told j lt is_due. idle_due (has_slot (slice_index c.args.due.now j) c.args.role) (first.before j (omega arith) lt) is_due;
      given = refl;
      never_falls = λ s. omega arith;
    }

pub write_sectors-requires-clause-place : goal.write_sectors-requires-clause-place
write_sectors-requires-clause-place g c =
    let was = c.loop-from.invariant in
    let here = c.requires.place in
    let to = c.next_row-to.ensures in
    let some : c.loop-from.from < c.next_row-to.result = stretch_some (λ j. has_slot (slice_index c.args.due.now j) c.args.role) c.loop-from.from c.next_row-to.result c.args.run.count c.loop-from-test.true
    (was.here c.loop-from-test.true) to.low to.here in
    subst (λ (given : Given). IsPlace given c.args.slot (c.args.at + c.loop-from.from) (512 * (c.next_row-to.result - c.loop-from.from))) (sym was.given)
    (record { known = here.known; some = omega (arith, some); whole = omega arith; within = omega (arith, here.within, to.high, some) })

pub returns-in-Err-clause-each_mark : goal.returns-in-Err-clause-each_mark
returns-in-Err-clause-each_mark g c =
    let was = c.loop-from.invariant in
    let to = c.next_row-to.ensures in
    let buffer = c.args.buffer.now in
    let role = c.args.role in
    let at = c.args.run.at in
    let from = c.loop-from.from in
    stretch_marks c.args.slot c.args.at (λ j. has_slot (slice_index c.args.due.now j) role) (λ j. buffered buffer (at + j) role) (λ j. sector_of buffer (role_sectors * role + at + from + j)) from c.next_row-to.result c.args.run.count
    to.low to.high to.before (λ j. same_place buffer (role_sectors * role) at from j) (g.B.Bank.given c.args.bank.now) (g.B.Bank.given c.loop-from.bank) (g.B.Bank.tape c.args.bank.now) (g.B.Bank.tape c.loop-from.bank)
    (g.B.Bank.tape c.write_sectors.new.bank) was.given was.marks c.write_sectors.ensures.each_mark

pub returns-in-Err-clause-failed : goal.returns-in-Err-clause-failed
returns-in-Err-clause-failed g c =
    let was = c.loop-from.invariant in
    let cause = c.write_sectors.ensures.cause in
    faulted_longer c.args.slot (g.B.Bank.faults_of c.args.bank.now) (g.B.Bank.faults_of c.loop-from.bank) (g.B.Bank.faults_of c.write_sectors.new.bank) (g.B.Bank.faults_of c.write_sectors.new.bank)
    (was.never_falls c.args.slot) (omega arith) (cause.never_falls c.args.slot) (cause.failed (ap is_err c.in-Err.is))

pub loop-from-preserved : goal.loop-from-preserved
loop-from-preserved g c =
    let was = c.loop-from.invariant in
    let did = c.write_sectors.ensures in
    let to = c.next_row-to.ensures in
    let next = c.next_row-from-in-loop-from.ensures in
    let buffer = c.args.buffer.now in
    let role = c.args.role in
    let slot = c.args.slot in
    let at = c.args.run.at in
    let from = c.loop-from.from in
    let due : ℕ → Bool = λ j. has_slot (slice_index c.args.due.now j) role in
    let new : ℕ → Sector = λ j. buffered buffer (at + j) role in
    let new' : ℕ → Sector = λ j. sector_of buffer (role_sectors * role + at + from + j) in
    let same : (j : ℕ) → new' j ≡ new (from + j) = λ j. same_place buffer (role_sectors * role) at from j in
    let given0 = g.B.Bank.given c.args.bank.now in
    let given1 = g.B.Bank.given c.loop-from.bank in
    let old = g.B.Bank.tape c.args.bank.now in
    let mid = g.B.Bank.tape c.loop-from.bank in
    let tape = g.B.Bank.tape c.write_sectors.new.bank in
    let to' = c.next_row-to.result in
    record {
      high = next.high;
      here = next.here;
      marks = stretch_marks slot c.args.at due new new' from to' c.next_row-from-in-loop-from.result to.low next.low to.before same given0 given1 old mid tape was.given was.marks did.each_mark;
      written = λ told.
          stretch_written slot c.args.at due new new' from to' c.next_row-from-in-loop-from.result to.low next.low to.before same (disk given0.start old) (disk given0.start mid) (disk given0.start tape) next.before
          (marks_last {P = IsGaining (IsSlotSector slot c.args.at 0 from due new) (disk given0.start old)} was.marks told)
          (subst (λ (g' : Given). IsGaining (IsSlotSector slot (c.args.at + from) 0 (to' - from) (λ j. true) new') (disk g'.start mid) (disk g'.start tape)) was.given
          (marks_last {P = IsGaining (IsSlotSector slot (c.args.at + from) 0 (to' - from) (λ j. true) new') (disk given1.start mid)} did.each_mark told))
          (was.written told)
          (subst (λ (g' : Given). (j : ℕ) → j < to' - from → disk g'.start tape slot (c.args.at + from + j) ≡ new' j ∷ disk g'.start mid slot (c.args.at + from + j)) was.given (c.in-Ok.ensures.written told));
      given = did.given ∙ was.given;
      never_falls = λ s. omega (arith, was.never_falls s, did.cause.never_falls s);
    }

pub loop-from-smaller : goal.loop-from-smaller
loop-from-smaller g c =
    let was = c.loop-from.invariant in
    let to = c.next_row-to.ensures in
    let some : c.loop-from.from < c.next_row-to.result = stretch_some (λ j. has_slot (slice_index c.args.due.now j) c.args.role) c.loop-from.from c.next_row-to.result c.args.run.count c.loop-from-test.true
    (was.here c.loop-from-test.true) to.low to.here in
    omega (arith, some, c.next_row-from-in-loop-from.ensures.low, c.next_row-from-in-loop-from.ensures.high, c.loop-from-test.true)

pub returns-clause-each_mark : goal.returns-clause-each_mark
returns-clause-each_mark g c =
    let was = c.loop-from.invariant in
    let start = (g.B.Bank.given c.args.bank.now).start in
    let old = g.B.Bank.tape c.args.bank.now in
    let all : c.loop-from.from ≡ c.args.run.count = omega (arith, was.high, c.loop-from-test.false) in
    subst (λ (n : ℕ). EachMark g.B.Bank.tells start old (g.B.Bank.tape c.loop-from.bank)
    (IsGaining (IsSlotSector c.args.slot c.args.at 0 n (λ j. has_slot (slice_index c.args.due.now j) c.args.role) (λ j. buffered c.args.buffer.now (c.args.run.at + j) c.args.role)) (disk start old))) all was.marks

pub returns-clause-written : goal.returns-clause-written
returns-clause-written g c = λ told j lt is_due. c.loop-from.invariant.written told j (omega (arith, lt, c.loop-from-test.false)) is_due
