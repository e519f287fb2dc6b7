use Rattle.std.proofs.Common.{rules, false, List, Some, length, refl, sym, ap, subst, arith, ◌∙◌}
use Rattle.std.specs.Prelude.{IsTrue}
use Rattle.run_requests.specs.bank_Tape.{contents}
use Rattle.run_requests.specs.raid_types_the_Fault.{Fault}
use Rattle.run_requests.specs.history_the_Entry.{Entry}
use Rattle.run_requests.specs.history_Transfers.{last_end_from}
use Rattle.run_requests.specs.array_create_assemble_Made.{HasCreateCause}
use Rattle.run_requests.specs.array_create_assemble_Opening.{scope_of}
use Rattle.run_requests.specs.script_the_Line_TheVariants.{Create as AsksCreate}
use Rattle.run_requests.specs.run_specs_Making.{setting_of}
use Rattle.run_requests.specs.run_specs_Replies.{spec_of}
use Rattle.run_requests.specs.run_specs_States.{IsTurn, running_history}
use Rattle.run_requests.specs.run_specs_the_Answered.{Answered}
use Rattle.run_requests.specs.run_specs_the_State_TheVariants.{Idle as IsIdle}
use Rattle.run_requests.proofs.run_specs_Causes.{below-grows, below-present, grows-none, create-refused, used-same}
use Rattle.run_requests.proofs.Legal.{idle_grown, going_begun}
use Rattle.run_line_answers.proofs.Found.{opened_accepted, opened_held}
use Rattle.run_line_answers.proofs.Turns.{turn_created, turn_idle, no_turn_idle}
use Rattle.run_requests.specs.run_specs_the_Answered_TheVariants.{Outside as IsOutside}
use Rattle.run_requests.specs.run_specs_the_Outside_TheVariants.{Created}
use Rattle.run_requests.specs.raid_types_the_Refusal.{Refusal}
use Rattle.run_requests.specs.raid_types_the_Fault_TheVariants.{Refused as IsRefusedWith}
use Rattle.run_requests.specs.run_specs_Histories.{histories_of}
use Rattle.run_requests.specs.run_specs_Written.{MayWrite, HasWritten, IsWritten}
use Rattle.run_requests.proofs.Writing.{written_idle, opened_below, create_refused, create_short}
use Rattle.run_line_answers.proofs.answers.create_array.Goals as goal
use Rattle.run_requests.proofs.array_members_SafeStretch.{grows-longer}

pub returns-then-not-has_room-clause-answered : goal.returns-then-not-has_room-clause-answered
returns-then-not-has_room-clause-answered g c =
    no_turn_idle (setting_of g.B.Bank.tells (g.B.Bank.given c.args.bank) (g.B.Bank.tape c.args.bank) (g.B.Bank.tape c.args.bank) c.args.backup (g.B.Bank.faults_of c.args.bank) (g.B.Bank.faults_of c.args.bank)) c.args.bank c.args.epochs c.has_room.new.epochs c.has_room.ensures.same c.requires.own c.args.bank (AsksCreate c.args.line)

pub returns-in-Ok-clause-answered : goal.returns-in-Ok-clause-answered
returns-in-Ok-clause-answered g c =
    let yes : IsTrue c.has_room.result = search rules in
    let did = c.in-Ok.ensures in
    let given = g.B.Bank.given c.args.bank in
    let before = g.B.Bank.tape c.args.bank in
    let after = g.B.Bank.tape c.in-Ok.array.parts.bank in
    turn_created (setting_of g.B.Bank.tells (g.B.Bank.given c.args.bank) (g.B.Bank.tape c.args.bank) (g.B.Bank.tape c.in-Ok.array.parts.bank) c.args.backup (g.B.Bank.faults_of c.args.bank) (g.B.Bank.faults_of c.in-Ok.array.parts.bank)) c.args.bank c.args.epochs c.has_room.new.epochs c.has_room.ensures.same c.requires.own c.in-Ok.array
    (c.has_room.ensures.room yes) (c.has_room.ensures.few yes) (grows-longer (below-grows did.tape)) c.args.line did.unrefused did.created did.planless did.unlimited
    (λ t. used-same (scope_of given c.args.backup c.in-Ok.array.parts.given c.args.line.uuid) (contents given.start before (length before)) (contents given.start after (length after)) c.args.line.shape.disks
    (below-present given.start c.args.line.shape.disks before after (did.tape t)) ∙ did.free t)

pub returns-in-Refused-clause-answered : goal.returns-in-Refused-clause-answered
returns-in-Refused-clause-answered g c =
    let left = c.in-Err.left.0 in
    let did = c.in-Err.ensures in
    let given = g.B.Bank.given c.args.bank in
    let tape = g.B.Bank.tape left in
    let setting = setting_of g.B.Bank.tells (g.B.Bank.given c.args.bank) (g.B.Bank.tape c.args.bank) (g.B.Bank.tape left) c.args.backup (g.B.Bank.faults_of c.args.bank) (g.B.Bank.faults_of left) in
    subst (λ (what : Answered). IsTurn setting (IsIdle c.args.bank c.args.epochs) (IsIdle left c.has_room.new.epochs) (AsksCreate c.args.line) what) (sym c.refused.ensures)
    (turn_idle setting c.args.bank c.args.epochs c.has_room.new.epochs c.has_room.ensures.same c.requires.own left (AsksCreate c.args.line) c.in-Refused.refusal (grows-longer (below-grows did.left_tape))
    (subst (λ (f : Fault). HasCreateCause g.B.Bank.tells given (contents given.start tape (length tape)) c.args.backup (spec_of c.args.line) (g.B.Bank.faults_of c.args.bank) (g.B.Bank.faults_of left) f) c.in-Refused.is
    (create-refused given c.args.backup (spec_of c.args.line) (g.B.Bank.tape c.args.bank) tape c.in-Err.left.1 did.left_counts.never_falls did.left_tape did.refused)))

pub returns-in-NoMemory-clause-answered : goal.returns-in-NoMemory-clause-answered
returns-in-NoMemory-clause-answered g c =
    no_turn_idle (setting_of g.B.Bank.tells (g.B.Bank.given c.args.bank) (g.B.Bank.tape c.args.bank) (g.B.Bank.tape c.in-Err.left.0) c.args.backup (g.B.Bank.faults_of c.args.bank) (g.B.Bank.faults_of c.in-Err.left.0)) c.args.bank c.args.epochs c.has_room.new.epochs c.has_room.ensures.same c.requires.own c.in-Err.left.0 (AsksCreate c.args.line)

pub returns-then-not-has_room-clause-former : goal.returns-then-not-has_room-clause-former
returns-then-not-has_room-clause-former g c = idle_grown (g.B.Bank.given c.args.bank) c.args.backup c.args.epochs.items c.has_room.new.epochs.items c.has_room.ensures.same (grows-none (g.B.Bank.tape c.args.bank)) c.requires.former

pub returns-in-Ok-clause-former : goal.returns-in-Ok-clause-former
returns-in-Ok-clause-former g c =
    let did = c.in-Ok.ensures in
    let begun = did.created.begun in
    going_begun (g.B.Bank.given c.args.bank) c.args.backup c.args.epochs.items c.has_room.new.epochs.items c.in-Ok.array.parts c.has_room.ensures.same (below-grows did.tape) begun.backup_is begun.first
    (λ t. opened_accepted (g.B.Bank.given c.args.bank) (g.B.Bank.tape c.in-Ok.array.parts.bank) c.args.backup (Some c.args.line.uuid) c.in-Ok.array.parts begun did.created.opened t begun.uuid)
    (λ t. opened_held (g.B.Bank.given c.args.bank) (g.B.Bank.tape c.in-Ok.array.parts.bank) c.args.backup (Some c.args.line.uuid) c.in-Ok.array.parts begun did.created.opened t begun.uuid)
    (λ t. ap (λ (l : List Entry). last_end_from c.in-Ok.array.parts.first l) did.created.quiet ∙ begun.first t) c.requires.former

pub returns-in-Refused-clause-former : goal.returns-in-Refused-clause-former
returns-in-Refused-clause-former g c = idle_grown (g.B.Bank.given c.args.bank) c.args.backup c.args.epochs.items c.has_room.new.epochs.items c.has_room.ensures.same (below-grows c.in-Err.ensures.left_tape) c.requires.former

pub returns-in-NoMemory-clause-former : goal.returns-in-NoMemory-clause-former
returns-in-NoMemory-clause-former g c = idle_grown (g.B.Bank.given c.args.bank) c.args.backup c.args.epochs.items c.has_room.new.epochs.items c.has_room.ensures.same (below-grows c.in-Err.ensures.left_tape) c.requires.former

pub returns-in-Ok-clause-grows : goal.returns-in-Ok-clause-grows
returns-in-Ok-clause-grows g c = below-grows c.in-Ok.ensures.tape

pub returns-in-Refused-clause-grows : goal.returns-in-Refused-clause-grows
returns-in-Refused-clause-grows g c = below-grows c.in-Err.ensures.left_tape

pub returns-in-NoMemory-clause-grows : goal.returns-in-NoMemory-clause-grows
returns-in-NoMemory-clause-grows g c = below-grows c.in-Err.ensures.left_tape

pub returns-then-not-has_room-clause-grows : goal.returns-then-not-has_room-clause-grows
returns-then-not-has_room-clause-grows g c = grows-none (g.B.Bank.tape c.args.bank)

pub returns-then-not-has_room-clause-written : goal.returns-then-not-has_room-clause-written
returns-then-not-has_room-clause-written g c told =
    let setting = setting_of g.B.Bank.tells (g.B.Bank.given c.args.bank) (g.B.Bank.tape c.args.bank) (g.B.Bank.tape c.args.bank) c.args.backup (g.B.Bank.faults_of c.args.bank) (g.B.Bank.faults_of c.args.bank) in
    written_idle setting c.args.epochs.items c.has_room.new.epochs.items (MayWrite (g.B.Bank.given c.args.bank) c.args.backup false (AsksCreate c.args.line)) c.has_room.ensures.same (omega arith)

pub returns-in-Ok-clause-written : goal.returns-in-Ok-clause-written
returns-in-Ok-clause-written g c told =
    let did = c.in-Ok.ensures in
    let begun = did.created.begun in
    let setting = setting_of g.B.Bank.tells (g.B.Bank.given c.args.bank) (g.B.Bank.tape c.args.bank) (g.B.Bank.tape c.in-Ok.array.parts.bank) c.args.backup (g.B.Bank.faults_of c.args.bank) (g.B.Bank.faults_of c.in-Ok.array.parts.bank) in
    opened_below setting (g.B.Bank.tape c.args.bank) refl c.args.epochs.items c.has_room.new.epochs.items c.has_room.ensures.same (running_history c.in-Ok.array.parts) (HasWritten (g.B.Bank.given c.args.bank) c.args.backup (AsksCreate c.args.line) (IsOutside Created))
    c.args.line.shape.disks (begun.first told) (ap (λ (l : List Entry). last_end_from c.in-Ok.array.parts.first l) did.created.quiet ∙ begun.first told) (did.tape told) (λ slot lt. (did.unrefused, lt))

pub returns-in-Refused-clause-written : goal.returns-in-Refused-clause-written
returns-in-Refused-clause-written g c told =
    let left = c.in-Err.left.0 in
    let did = c.in-Err.ensures in
    let given = g.B.Bank.given c.args.bank in
    let setting = setting_of g.B.Bank.tells given (g.B.Bank.tape c.args.bank) (g.B.Bank.tape left) c.args.backup (g.B.Bank.faults_of c.args.bank) (g.B.Bank.faults_of left) in
    let start = given.start in
    let was = contents start (g.B.Bank.tape c.args.bank) (length (g.B.Bank.tape c.args.bank)) in
    subst (λ (what : Answered). IsWritten setting (histories_of c.args.epochs.items) (histories_of c.has_room.new.epochs.items) (HasWritten given c.args.backup (AsksCreate c.args.line) what)) (sym c.refused.ensures)
    (create_refused setting (g.B.Bank.tape c.args.bank) refl c.args.epochs.items c.has_room.new.epochs.items c.has_room.ensures.same was (g.B.Bank.faults_of c.args.bank) (g.B.Bank.faults_of left) c.args.line (did.left_tape told)
    (λ refusal is. let same = ap (λ (b : g.row.B.Denot). length (g.B.Bank.tape b)) (did.untouched refusal is) in omega (arith, same)) c.in-Refused.refusal
    (λ slot is. did.unwritten slot (c.in-Refused.is ∙ ap (λ (r : Refusal). IsRefusedWith r) is) told)
    (subst (λ (f : Fault). HasCreateCause g.B.Bank.tells given was c.args.backup (spec_of c.args.line) (g.B.Bank.faults_of c.args.bank) (g.B.Bank.faults_of left) f) c.in-Refused.is did.refused))

pub returns-in-NoMemory-clause-written : goal.returns-in-NoMemory-clause-written
returns-in-NoMemory-clause-written g c told =
    let left = c.in-Err.left.0 in
    let did = c.in-Err.ensures in
    let given = g.B.Bank.given c.args.bank in
    let setting = setting_of g.B.Bank.tells given (g.B.Bank.tape c.args.bank) (g.B.Bank.tape left) c.args.backup (g.B.Bank.faults_of c.args.bank) (g.B.Bank.faults_of left) in
    let start = given.start in
    let was = contents start (g.B.Bank.tape c.args.bank) (length (g.B.Bank.tape c.args.bank)) in
    create_short setting (g.B.Bank.tape c.args.bank) refl c.args.epochs.items c.has_room.new.epochs.items c.has_room.ensures.same was (g.B.Bank.faults_of c.args.bank) (g.B.Bank.faults_of left) c.args.line (did.left_tape told)
    (λ refusal is. let same = ap (λ (b : g.row.B.Denot). length (g.B.Bank.tape b)) (did.untouched refusal is) in omega (arith, same))
    (subst (λ (f : Fault). HasCreateCause g.B.Bank.tells given was c.args.backup (spec_of c.args.line) (g.B.Bank.faults_of c.args.bank) (g.B.Bank.faults_of left) f) c.in-NoMemory.is did.refused)
