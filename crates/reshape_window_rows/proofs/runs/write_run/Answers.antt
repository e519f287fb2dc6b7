use Rattle.std.proofs.Common.{◌+◌, ◌/◌, ℕ, length, sym, ap, ◌∙◌, arith}
use Rattle.std.specs.Prelude.{is_ok}
use Rattle.reshape_begin_end.specs.raid_parity_Rows.{sector_of}
use Rattle.reshape_begin_end.specs.stripe_row_Rows.{present, reading_of}
use Rattle.reshape_begin_end.proofs.stripe_list_LossLaws.{none_lost}
use Rattle.reshape_window_rows.specs.Runs.{IsRolePlace}
use Rattle.reshape_window_rows.proofs.RunLaws.{run_marks, marks_same, role_place, run_written, run_none, run_lost}
use Rattle.reshape_window_rows.proofs.runs.write_run.Goals as goal

pub returns-in_default-clause-lost : goal.returns-in_default-clause-lost
returns-in_default-clause-lost g c = none_lost c.args.shape.now c.args.members.now (g.B.Bank.faults_of c.args.bank.now) (g.B.Bank.faults_of c.args.bank.now) (λ s. omega arith)

pub returns-in_default-clause-each_mark : goal.returns-in_default-clause-each_mark
returns-in_default-clause-each_mark g c =
    marks_same (g.B.Bank.given c.args.bank.now).start (IsRolePlace (reading_of c.args.members.now) c.args.role c.args.from (length c.args.run.now / 512)) (g.B.Bank.tape c.args.bank.now)

pub returns-in_default-clause-written : goal.returns-in_default-clause-written
returns-in_default-clause-written g c = λ told.
    run_none (reading_of c.args.members.now) (present (g.B.Bank.given c.args.bank.now) (g.B.Bank.tape c.args.bank.now)) c.args.role c.args.from (length c.args.run.now / 512) (sector_of c.args.run.now)
    (sym c.holder_of.ensures ∙ c.in_default.is)

pub data_offset-requires : goal.data_offset-requires
data_offset-requires g c = (c.requires.rows.holders c.args.role c.in-Some.slot (sym c.holder_of.ensures ∙ c.in-Some.is)).small

pub overflow_add-at : goal.overflow_add-at
overflow_add-at g c =
    let has = c.requires.rows.holders c.args.role c.in-Some.slot (sym c.holder_of.ensures ∙ c.in-Some.is) in
    omega (arith, has.short, has.within, c.data_offset.ensures, c.requires.below, c.requires.some)

pub write-requires : goal.write-requires
write-requires g c =
    let has = c.requires.rows.holders c.args.role c.in-Some.slot (sym c.holder_of.ensures ∙ c.in-Some.is) in
    record {
      known = has.known;
      some = let some = c.requires.some in omega (arith, some);
      whole = sym c.requires.whole;
      within = omega (arith, has.within, c.data_offset.ensures, c.requires.below);
    }

pub lose_slot-requires-clause-slot : goal.lose_slot-requires-clause-slot
lose_slot-requires-clause-slot g c = (c.requires.rows.holders c.args.role c.in-Some.slot (sym c.holder_of.ensures ∙ c.in-Some.is)).small

pub lose_slot-requires-clause-small : goal.lose_slot-requires-clause-small
lose_slot-requires-clause-small g c = λ role slot is. (c.requires.rows.holders role slot is).small

pub returns-in-Ok-clause-lost : goal.returns-in-Ok-clause-lost
returns-in-Ok-clause-lost g c = none_lost c.args.shape.now c.args.members.now (g.B.Bank.faults_of c.args.bank.now) (g.B.Bank.faults_of c.write.new.self) c.write.ensures.cause.never_falls

pub returns-in-Ok-clause-each_mark : goal.returns-in-Ok-clause-each_mark
returns-in-Ok-clause-each_mark g c =
    let r = reading_of c.args.members.now in
    let n = length c.args.run.now / 512 in
    let slot = c.in-Some.slot in
    let at = c.data_offset.result + c.args.from in
    run_marks (g.B.Bank.given c.args.bank.now).start (IsRolePlace r c.args.role c.args.from n) slot at n c.args.run.now (g.B.Bank.tape c.args.bank.now) (g.B.Bank.tape c.write.new.self)
    (role_place r c.args.role c.args.from n slot at (sym c.holder_of.ensures ∙ c.in-Some.is) (ap (λ (x : ℕ). x + c.args.from) c.data_offset.ensures)) c.write.ensures.did.some

pub returns-in-Err-clause-each_mark : goal.returns-in-Err-clause-each_mark
returns-in-Err-clause-each_mark g c =
    let r = reading_of c.args.members.now in
    let n = length c.args.run.now / 512 in
    let slot = c.in-Some.slot in
    let at = c.data_offset.result + c.args.from in
    run_marks (g.B.Bank.given c.args.bank.now).start (IsRolePlace r c.args.role c.args.from n) slot at n c.args.run.now (g.B.Bank.tape c.args.bank.now) (g.B.Bank.tape c.write.new.self)
    (role_place r c.args.role c.args.from n slot at (sym c.holder_of.ensures ∙ c.in-Some.is) (ap (λ (x : ℕ). x + c.args.from) c.data_offset.ensures)) c.write.ensures.did.some

pub returns-in-Ok-clause-written : goal.returns-in-Ok-clause-written
returns-in-Ok-clause-written g c = λ told.
    let r = reading_of c.args.members.now in
    let slot = c.in-Some.slot in
    let at = c.data_offset.result + c.args.from in
    run_written r c.args.role c.args.from (length c.args.run.now / 512) slot at (g.B.Bank.given c.args.bank.now) (g.B.Bank.given c.write.new.self) (g.B.Bank.tape c.args.bank.now) (g.B.Bank.tape c.write.new.self)
    c.args.run.now (sym c.holder_of.ensures ∙ c.in-Some.is) (ap (λ (x : ℕ). x + c.args.from) c.data_offset.ensures) c.write.ensures.given (c.write.ensures.did.all told (ap is_ok c.in-Ok.is))

pub returns-in-Err-clause-written : goal.returns-in-Err-clause-written
returns-in-Err-clause-written g c = λ told.
    run_lost c.args.members.now c.lose_slot.new.members c.lose_slot.result c.args.role c.in-Some.slot c.args.from (length c.args.run.now / 512)
    (present (g.B.Bank.given c.write.new.self) (g.B.Bank.tape c.write.new.self)) (sector_of c.args.run.now) c.lose_slot.ensures.members c.lose_slot.ensures.alone (sym c.holder_of.ensures ∙ c.in-Some.is)
