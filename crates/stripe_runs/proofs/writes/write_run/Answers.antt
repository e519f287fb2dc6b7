use Rattle.std.proofs.Common.{ℕ, ◌+◌, Bool, arith}
use Rattle.std.specs.Prelude.{slice_index}
use Rattle.raid_layout.specs.raid_types_Sectors.{Sector}
use Rattle.raid_layout.specs.raid_types_Shapes.{has_slot}
use Rattle.raid_parity_simd.specs.Buffers.{buffered}
use Rattle.stripe_row.specs.bank_Tape.{disk}
use Rattle.stripe_row.specs.Rows.{reading_of}
use Rattle.stripe_row.proofs.Turns.{marks_last}
use Rattle.stripe_runs.specs.Writing.{is_due_in, new_buffered, IsWritingRun, IsRunWritten}
use Rattle.stripe_runs.proofs.StandLaws.{run_stands}
use Rattle.stripe_runs.proofs.WriteLaws.{marks_by, written_by}
use Rattle.stripe_runs.proofs.writes.write_run.Goals as goal

pub lose_slots-requires-clause-small : goal.lose_slots-requires-clause-small
lose_slots-requires-clause-small g c = λ role slot is. (c.requires.rows.first.holders role slot is).small

pub returns-clause-each_mark : goal.returns-clause-each_mark
returns-clause-each_mark g c =
    let shape = c.args.shape.now in
    let run = c.args.run in
    let due : ℕ → ℕ → Bool = λ j role. has_slot (slice_index c.due_roles-due.result j) role in
    let new : ℕ → ℕ → Sector = λ j role. buffered c.set_parity.new.buffer (run.at + j) role in
    marks_by (reading_of c.args.members.now) shape.disks run.row run.count due (is_due_in shape run c.args.changed.now) new (new_buffered shape run c.args.buffer.now) c.due_roles-due.ensures c.set_parity.ensures.sectors
    (g.B.Bank.given c.args.bank.now).start (g.B.Bank.tape c.args.bank.now) (g.B.Bank.tape c.write_roles-lost.new.bank) c.write_roles-lost.ensures.each_mark

pub returns-clause-written : goal.returns-clause-written
returns-clause-written g c = λ told.
    let shape = c.args.shape.now in
    let run = c.args.run in
    let start = (g.B.Bank.given c.args.bank.now).start in
    let due : ℕ → ℕ → Bool = λ j role. has_slot (slice_index c.due_roles-due.result j) role in
    let new : ℕ → ℕ → Sector = λ j role. buffered c.set_parity.new.buffer (run.at + j) role in
    written_by (reading_of c.args.members.now) shape.disks run.row run.count due (is_due_in shape run c.args.changed.now) new (new_buffered shape run c.args.buffer.now) c.due_roles-due.ensures c.set_parity.ensures.sectors
    c.write_roles-lost.result (disk start (g.B.Bank.tape c.args.bank.now)) (disk start (g.B.Bank.tape c.write_roles-lost.new.bank)) (c.write_roles-lost.ensures.written told)

pub returns-clause-good : goal.returns-clause-good
returns-clause-good g c = λ told few others j lt.
    let shape = c.args.shape.now in
    let run = c.args.run in
    let r = reading_of c.args.members.now in
    let changed = c.args.changed.now in
    let buffer = c.args.buffer.now in
    let given = g.B.Bank.given c.args.bank.now in
    let old = g.B.Bank.tape c.args.bank.now in
    let tape = g.B.Bank.tape c.write_roles-lost.new.bank in
    let due : ℕ → ℕ → Bool = λ i role. has_slot (slice_index c.due_roles-due.result i) role in
    let new : ℕ → ℕ → Sector = λ i role. buffered c.set_parity.new.buffer (run.at + i) role in
    let writing : IsWritingRun r shape run changed buffer (disk given.start old) (disk given.start tape) =
    marks_last {P = IsWritingRun r shape run changed buffer (disk given.start old)}
    (marks_by r shape.disks run.row run.count due (is_due_in shape run changed) new (new_buffered shape run buffer) c.due_roles-due.ensures c.set_parity.ensures.sectors given.start old tape c.write_roles-lost.ensures.each_mark) told in
    let written : IsRunWritten r shape run changed buffer c.write_roles-lost.result (disk given.start old) (disk given.start tape) =
    written_by r shape.disks run.row run.count due (is_due_in shape run changed) new (new_buffered shape run buffer) c.due_roles-due.ensures c.set_parity.ensures.sectors
    c.write_roles-lost.result (disk given.start old) (disk given.start tape) (c.write_roles-lost.ensures.written told) in
    let rows = c.requires.rows in
    (run_stands c.args.members.now c.lose_slots.new.members c.write_roles-lost.result given (g.B.Bank.given c.write_roles-lost.new.bank) old tape shape run changed buffer
    c.lose_slots.ensures c.write_roles-lost.ensures.given c.requires.apart others writing written few j lt (c.set_parity.ensures.good j lt) (omega (arith, rows.below, lt))).good

pub returns-clause-stands : goal.returns-clause-stands
returns-clause-stands g c = λ told few others role j low lt.
    let shape = c.args.shape.now in
    let run = c.args.run in
    let r = reading_of c.args.members.now in
    let changed = c.args.changed.now in
    let buffer = c.args.buffer.now in
    let given = g.B.Bank.given c.args.bank.now in
    let old = g.B.Bank.tape c.args.bank.now in
    let tape = g.B.Bank.tape c.write_roles-lost.new.bank in
    let due : ℕ → ℕ → Bool = λ i role. has_slot (slice_index c.due_roles-due.result i) role in
    let new : ℕ → ℕ → Sector = λ i role. buffered c.set_parity.new.buffer (run.at + i) role in
    let writing : IsWritingRun r shape run changed buffer (disk given.start old) (disk given.start tape) =
    marks_last {P = IsWritingRun r shape run changed buffer (disk given.start old)}
    (marks_by r shape.disks run.row run.count due (is_due_in shape run changed) new (new_buffered shape run buffer) c.due_roles-due.ensures c.set_parity.ensures.sectors given.start old tape c.write_roles-lost.ensures.each_mark) told in
    let written : IsRunWritten r shape run changed buffer c.write_roles-lost.result (disk given.start old) (disk given.start tape) =
    written_by r shape.disks run.row run.count due (is_due_in shape run changed) new (new_buffered shape run buffer) c.due_roles-due.ensures c.set_parity.ensures.sectors
    c.write_roles-lost.result (disk given.start old) (disk given.start tape) (c.write_roles-lost.ensures.written told) in
    let rows = c.requires.rows in
    (run_stands c.args.members.now c.lose_slots.new.members c.write_roles-lost.result given (g.B.Bank.given c.write_roles-lost.new.bank) old tape shape run changed buffer
    c.lose_slots.ensures c.write_roles-lost.ensures.given c.requires.apart others writing written few j lt (c.set_parity.ensures.good j lt) (omega (arith, rows.below, lt))).sectors role low
