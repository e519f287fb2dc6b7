use Rattle.std.proofs.Common.{ℕ, ◌+◌, ◌==◌, refl, sym, ap, ◌∙◌, arith}
use Rattle.std.specs.Prelude.{slice_index}
use Rattle.raid_layout.specs.raid_types_Shapes.{has_slot}
use Rattle.raid_parity_simd.specs.Buffers.{buffered}
use Rattle.stripe_row.specs.bank_Tape.{disk}
use Rattle.stripe_row.specs.Rows.{reading_of}
use Rattle.stripe_row.proofs.Lacks.{or_right, equal}
use Rattle.stripe_runs.specs.Writing.{IsNewSector}
use Rattle.stripe_runs.proofs.GainLaws.{marks_same}
use Rattle.stripe_runs.proofs.WriteLaws.{role_marks, role_written, none_written, lost_unwritten}
use Rattle.stripe_runs.proofs.writes.write_role.Goals as goal

pub returns-in_default-clause-each_mark : goal.returns-in_default-clause-each_mark
returns-in_default-clause-each_mark g c =
    marks_same (g.B.Bank.given c.args.bank.now).start (IsNewSector (reading_of c.args.members.now) c.args.role (c.args.role + 1) c.args.run.row c.args.run.count (λ j r. has_slot (slice_index c.args.due.now j) r)
    (λ j r. buffered c.args.buffer.now (c.args.run.at + j) r)) (g.B.Bank.tape c.args.bank.now)

pub returns-in_default-clause-written : goal.returns-in_default-clause-written
returns-in_default-clause-written g c = λ told.
    let d = disk (g.B.Bank.given c.args.bank.now).start (g.B.Bank.tape c.args.bank.now) in
    none_written (reading_of c.args.members.now) c.args.role c.args.run.row c.args.run.count (λ j r. has_slot (slice_index c.args.due.now j) r) (λ j r. buffered c.args.buffer.now (c.args.run.at + j) r)
    c.args.lost d d (sym c.holder_of.ensures ∙ c.in_default.is)

pub contains-requires : goal.contains-requires
contains-requires g c = (c.requires.rows.first.holders c.args.role c.in-Some.slot (sym c.holder_of.ensures ∙ c.in-Some.is)).small

pub returns-then-contains-clause-each_mark : goal.returns-then-contains-clause-each_mark
returns-then-contains-clause-each_mark g c =
    marks_same (g.B.Bank.given c.args.bank.now).start (IsNewSector (reading_of c.args.members.now) c.args.role (c.args.role + 1) c.args.run.row c.args.run.count (λ j r. has_slot (slice_index c.args.due.now j) r)
    (λ j r. buffered c.args.buffer.now (c.args.run.at + j) r)) (g.B.Bank.tape c.args.bank.now)

pub returns-then-contains-clause-written : goal.returns-then-contains-clause-written
returns-then-contains-clause-written g c = λ told.
    let d = disk (g.B.Bank.given c.args.bank.now).start (g.B.Bank.tape c.args.bank.now) in
    lost_unwritten (reading_of c.args.members.now) c.args.role c.args.run.row c.args.run.count c.in-Some.slot (λ j r. has_slot (slice_index c.args.due.now j) r) (λ j r. buffered c.args.buffer.now (c.args.run.at + j) r)
    c.args.lost d d (sym c.holder_of.ensures ∙ c.in-Some.is) (sym c.contains.ensures ∙ c.if-contains.true)

pub data_offset-requires : goal.data_offset-requires
data_offset-requires g c = (c.requires.rows.first.holders c.args.role c.in-Some.slot (sym c.holder_of.ensures ∙ c.in-Some.is)).small

pub overflow_add-at : goal.overflow_add-at
overflow_add-at g c =
    let has = c.requires.rows.first.holders c.args.role c.in-Some.slot (sym c.holder_of.ensures ∙ c.in-Some.is) in
    omega (arith, has.short, has.within, c.data_offset.ensures, c.requires.rows.first.below)

pub write_due-requires-clause-place : goal.write_due-requires-clause-place
write_due-requires-clause-place g c =
    let has = c.requires.rows.first.holders c.args.role c.in-Some.slot (sym c.holder_of.ensures ∙ c.in-Some.is) in
    record {
      known = has.known;
      some = omega (arith, c.requires.rows.some);
      whole = omega arith;
      within = omega (arith, has.within, c.data_offset.ensures, c.requires.rows.below);
    }

pub write_due-requires-clause-short : goal.write_due-requires-clause-short
write_due-requires-clause-short g c =
    let has = c.requires.rows.first.holders c.args.role c.in-Some.slot (sym c.holder_of.ensures ∙ c.in-Some.is) in
    omega (arith, has.short, has.within, c.data_offset.ensures, c.requires.rows.below)

pub with-requires : goal.with-requires
with-requires g c = (c.requires.rows.first.holders c.args.role c.in-Some.slot (sym c.holder_of.ensures ∙ c.in-Some.is)).small

pub returns-in-Ok-clause-each_mark : goal.returns-in-Ok-clause-each_mark
returns-in-Ok-clause-each_mark g c =
    role_marks (reading_of c.args.members.now) c.args.role c.args.run.row c.args.run.count c.in-Some.slot (c.data_offset.result + c.args.run.row) (λ j r. has_slot (slice_index c.args.due.now j) r)
    (λ j r. buffered c.args.buffer.now (c.args.run.at + j) r) (sym c.holder_of.ensures ∙ c.in-Some.is) (ap (λ (x : ℕ). x + c.args.run.row) c.data_offset.ensures)
    (g.B.Bank.given c.args.bank.now).start (g.B.Bank.tape c.args.bank.now) (g.B.Bank.tape c.write_due.new.bank) c.write_due.ensures.each_mark

pub returns-in-Ok-clause-written : goal.returns-in-Ok-clause-written
returns-in-Ok-clause-written g c = λ told.
    let start = (g.B.Bank.given c.args.bank.now).start in
    role_written (reading_of c.args.members.now) c.args.role c.args.run.row c.args.run.count c.in-Some.slot (c.data_offset.result + c.args.run.row) (λ j r. has_slot (slice_index c.args.due.now j) r)
    (λ j r. buffered c.args.buffer.now (c.args.run.at + j) r) (sym c.holder_of.ensures ∙ c.in-Some.is) (ap (λ (x : ℕ). x + c.args.run.row) c.data_offset.ensures)
    c.args.lost (disk start (g.B.Bank.tape c.args.bank.now)) (disk start (g.B.Bank.tape c.write_due.new.bank)) (c.in-Ok.ensures.written told)

pub returns-in-Err-clause-each_mark : goal.returns-in-Err-clause-each_mark
returns-in-Err-clause-each_mark g c =
    role_marks (reading_of c.args.members.now) c.args.role c.args.run.row c.args.run.count c.in-Some.slot (c.data_offset.result + c.args.run.row) (λ j r. has_slot (slice_index c.args.due.now j) r)
    (λ j r. buffered c.args.buffer.now (c.args.run.at + j) r) (sym c.holder_of.ensures ∙ c.in-Some.is) (ap (λ (x : ℕ). x + c.args.run.row) c.data_offset.ensures)
    (g.B.Bank.given c.args.bank.now).start (g.B.Bank.tape c.args.bank.now) (g.B.Bank.tape c.write_due.new.bank) c.write_due.ensures.each_mark

pub returns-in-Err-clause-written : goal.returns-in-Err-clause-written
returns-in-Err-clause-written g c = λ told.
    let start = (g.B.Bank.given c.args.bank.now).start in
    let slot = c.in-Some.slot in
    lost_unwritten (reading_of c.args.members.now) c.args.role c.args.run.row c.args.run.count slot (λ j r. has_slot (slice_index c.args.due.now j) r) (λ j r. buffered c.args.buffer.now (c.args.run.at + j) r)
    c.with.result (disk start (g.B.Bank.tape c.args.bank.now)) (disk start (g.B.Bank.tape c.write_due.new.bank)) (sym c.holder_of.ensures ∙ c.in-Some.is)
    (c.with.ensures slot ∙ or_right (has_slot c.args.lost slot) (slot == slot) (equal slot slot refl))
