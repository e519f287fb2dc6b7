use Rattle.std.proofs.Common.{◌≡◌, rules, refl, ℕ, false, [], ◌∷◌, ◌++◌, length, sym, ap, subst, arith, ◌∙◌}
use Rattle.std.specs.Prelude.{IsTrue}
use Rattle.run_requests.specs.bank_Given.{NeverFalls}
use Rattle.run_requests.specs.bank_Tape.{contents}
use Rattle.run_requests.specs.array_members_Moving.{Grows}
use Rattle.run_requests.specs.raid_types_the_Fault.{Fault}
use Rattle.run_requests.specs.raid_types_the_Who.{Who}
use Rattle.run_requests.specs.history_the_Event_TheVariants.{Shown}
use Rattle.run_requests.specs.history_Flat.{next_number}
use Rattle.run_requests.specs.history_Plain.{entries_of}
use Rattle.run_requests.specs.array_call_specs_Calls.{IsEntered, IsEndOf}
use Rattle.run_requests.specs.array_specs_Parts.{RunningParts}
use Rattle.run_requests.specs.array_create_assemble_Opening.{HasFoundNone}
use Rattle.run_requests.specs.script_the_Line_TheVariants.{Assemble as AsksAssemble}
use Rattle.run_requests.specs.run_specs_Ended.{IsGoing, IsRunKept}
use Rattle.run_requests.specs.run_specs_Making.{setting_of, world_at, AreHeldSince}
use Rattle.run_requests.specs.run_specs_States.{running_history, IsTurn, IsNoTurn}
use Rattle.run_requests.specs.run_specs_the_Answered.{Answered}
use Rattle.run_requests.specs.run_specs_the_Answered_TheVariants.{Outside as AnsweredOutside}
use Rattle.run_requests.specs.run_specs_the_Outside_TheVariants.{Assembled}
use Rattle.run_requests.specs.run_specs_the_State_TheVariants.{Idle as IsIdle, Running as IsRunning}
use Rattle.run_requests.proofs.run_specs_Causes.{flushes-grow, grows-none, assemble-refused, backup-known}
use Rattle.run_requests.proofs.Legal.{idle_grown, accepted-grown, going_begun}
use Rattle.run_requests.specs.sb_specs_the_Members.{Members}
use Rattle.run_requests.proofs.CausedLaws.{shown-later}
use Rattle.run_line_answers.proofs.Found.{found_here}
use Rattle.run_requests.proofs.run_specs_Losses.{held-later}
use Rattle.run_line_answers.proofs.Turns.{turn_found, turn_idle, no_turn_idle}
use Rattle.run_requests.specs.run_specs_Histories.{histories_of}
use Rattle.run_requests.specs.run_specs_Written.{MayWrite, HasWritten, IsWritten}
use Rattle.run_requests.proofs.Writing.{written_idle, idle_flushes, opened_flushes}
use Rattle.run_line_answers.proofs.answers.assemble_array.Goals as goal
use Rattle.run_requests.proofs.array_members_SafeStretch.{grows-longer}

pub open_running-requires-clause-backup : goal.open_running-requires-clause-backup
open_running-requires-clause-backup g c = backup-known (g.B.Bank.given c.args.bank).slots c.args.backup c.requires.bank.last

pub returns-then-not-has_room-clause-answered : goal.returns-then-not-has_room-clause-answered
returns-then-not-has_room-clause-answered g c =
    no_turn_idle (setting_of g.B.Bank.tells (g.B.Bank.given c.args.bank) (g.B.Bank.tape c.args.bank) (g.B.Bank.tape c.args.bank) c.args.backup (g.B.Bank.faults_of c.args.bank) (g.B.Bank.faults_of c.args.bank)) c.args.bank c.args.epochs c.has_room.new.epochs c.has_room.ensures.same c.requires.own c.args.bank (AsksAssemble c.args.uuid)

pub returns-in-Ok-status-clause-answered : goal.returns-in-Ok-status-clause-answered
returns-in-Ok-status-clause-answered g c =
    let yes : IsTrue c.has_room.result = search rules in
    let found = c.in-Ok.array in
    let did = c.in-Ok.ensures in
    let array = c.status.new.array in
    let told = c.in-Ok-status.ensures in
    let setting = setting_of g.B.Bank.tells (g.B.Bank.given c.args.bank) (g.B.Bank.tape c.args.bank) (g.B.Bank.tape found.parts.bank) c.args.backup (g.B.Bank.faults_of c.args.bank) (g.B.Bank.faults_of found.parts.bank) in
    subst (λ (b : g.row.B.Denot). IsTurn (setting_of g.B.Bank.tells (g.B.Bank.given c.args.bank) (g.B.Bank.tape c.args.bank) (g.B.Bank.tape b) c.args.backup (g.B.Bank.faults_of c.args.bank) (g.B.Bank.faults_of b)) (IsIdle c.args.bank c.args.epochs) (IsRunning array c.has_room.new.epochs) (AsksAssemble c.args.uuid) (AnsweredOutside (Assembled c.next_epoch-epoch.result c.in-Ok-status.status))) (sym told.bank)
    (subst (λ (n : ℕ). IsTurn setting (IsIdle c.args.bank c.args.epochs) (IsRunning array c.has_room.new.epochs) (AsksAssemble c.args.uuid) (AnsweredOutside (Assembled n c.in-Ok-status.status))) (sym c.next_epoch-epoch.ensures)
    (turn_found setting c.args.bank c.args.epochs c.has_room.new.epochs c.has_room.ensures.same c.requires.own array
    (c.has_room.ensures.room yes) (c.has_room.ensures.few yes) (grows-longer (flushes-grow did.tape)) found c.args.uuid (found_here (g.B.Bank.given c.args.bank) (g.B.Bank.tape found.parts.bank) c.args.backup c.args.uuid found did.found) told.same.array.uuid told.same.array.given told.same.array.first c.in-Ok-status.status told.told
    (subst (λ (w : Who). IsEntered g.B.Bank.tells (g.B.Bank.tape found.parts.bank) w found.parts.entries array.parts.entries (Shown c.in-Ok-status.status ∷ [])) c.script_call-who.ensures told.entered) told.members told.same.ahead told.same.array.backup
    (shown-later found array told.members told.work told.course told.same.ahead told.same.limit c.in-Ok-status.status told.told)))

pub returns-in-Err-status-clause-answered : goal.returns-in-Err-status-clause-answered
returns-in-Err-status-clause-answered g c =
    let gone : c.halt-bank.result.0 ≡ c.in-Ok.array.parts.bank = c.halt-bank.ensures.bank ∙ ap (λ (a : RunningParts g.row.B.Denot). a.parts.bank) c.in-Err-status.ensures.unchanged in
    subst (λ (b : g.row.B.Denot). IsNoTurn (setting_of g.B.Bank.tells (g.B.Bank.given c.args.bank) (g.B.Bank.tape c.args.bank) (g.B.Bank.tape b) c.args.backup (g.B.Bank.faults_of c.args.bank) (g.B.Bank.faults_of b)) (IsIdle c.args.bank c.args.epochs) (IsIdle b c.has_room.new.epochs) (AsksAssemble c.args.uuid)) (sym gone)
    (no_turn_idle (setting_of g.B.Bank.tells (g.B.Bank.given c.args.bank) (g.B.Bank.tape c.args.bank) (g.B.Bank.tape c.in-Ok.array.parts.bank) c.args.backup (g.B.Bank.faults_of c.args.bank) (g.B.Bank.faults_of c.in-Ok.array.parts.bank)) c.args.bank c.args.epochs c.has_room.new.epochs c.has_room.ensures.same c.requires.own c.in-Ok.array.parts.bank (AsksAssemble c.args.uuid))

pub returns-in-Refused-clause-answered : goal.returns-in-Refused-clause-answered
returns-in-Refused-clause-answered g c =
    let left = c.in-Err.left.0 in
    let did = c.in-Err.ensures in
    let given = g.B.Bank.given c.args.bank in
    let tape = g.B.Bank.tape left in
    let setting = setting_of g.B.Bank.tells (g.B.Bank.given c.args.bank) (g.B.Bank.tape c.args.bank) (g.B.Bank.tape left) c.args.backup (g.B.Bank.faults_of c.args.bank) (g.B.Bank.faults_of left) in
    subst (λ (what : Answered). IsTurn setting (IsIdle c.args.bank c.args.epochs) (IsIdle left c.has_room.new.epochs) (AsksAssemble c.args.uuid) what) (sym c.refused.ensures)
    (turn_idle setting c.args.bank c.args.epochs c.has_room.new.epochs c.has_room.ensures.same c.requires.own left (AsksAssemble c.args.uuid) c.in-Refused.refusal (grows-longer (flushes-grow did.left_tape))
    (subst (λ (f : Fault). HasFoundNone g.B.Bank.tells given (contents given.start tape (length tape)) c.args.backup c.args.uuid (g.B.Bank.faults_of c.args.bank) (g.B.Bank.faults_of left) f) c.in-Refused.is
    (assemble-refused given c.args.backup c.args.uuid (g.B.Bank.tape c.args.bank) tape c.in-Err.left.1 did.left_counts.never_falls did.left_tape did.refused)))

pub returns-in-NoMemory-clause-answered : goal.returns-in-NoMemory-clause-answered
returns-in-NoMemory-clause-answered g c =
    no_turn_idle (setting_of g.B.Bank.tells (g.B.Bank.given c.args.bank) (g.B.Bank.tape c.args.bank) (g.B.Bank.tape c.in-Err.left.0) c.args.backup (g.B.Bank.faults_of c.args.bank) (g.B.Bank.faults_of c.in-Err.left.0)) c.args.bank c.args.epochs c.has_room.new.epochs c.has_room.ensures.same c.requires.own c.in-Err.left.0 (AsksAssemble c.args.uuid)

pub returns-then-not-has_room-clause-former : goal.returns-then-not-has_room-clause-former
returns-then-not-has_room-clause-former g c = idle_grown (g.B.Bank.given c.args.bank) c.args.backup c.args.epochs.items c.has_room.new.epochs.items c.has_room.ensures.same (grows-none (g.B.Bank.tape c.args.bank)) c.requires.former

pub returns-in-Ok-status-clause-former : goal.returns-in-Ok-status-clause-former
returns-in-Ok-status-clause-former g c =
    let did = c.in-Ok.ensures in
    let here = found_here (g.B.Bank.given c.args.bank) (g.B.Bank.tape c.in-Ok.array.parts.bank) c.args.backup c.args.uuid c.in-Ok.array did.found in
    let told = c.in-Ok-status.ensures in
    let array = c.status.new.array in
    subst (λ (b : g.row.B.Denot). IsGoing g.B.Bank.tells (g.B.Bank.given c.args.bank) (g.B.Bank.tape b) c.args.backup array.parts c.has_room.new.epochs.items) (sym told.bank)
    (going_begun (g.B.Bank.given c.args.bank) c.args.backup c.args.epochs.items c.has_room.new.epochs.items array.parts c.has_room.ensures.same (flushes-grow did.tape) (told.same.array.backup ∙ here.backup_is) (λ t. told.same.array.first ∙ here.first t)
    (accepted-grown (g.B.Bank.given c.args.bank) c.args.backup (running_history c.in-Ok.array.parts) (running_history array.parts) (grows-none (g.B.Bank.tape c.in-Ok.array.parts.bank)) (record { uuid = told.same.array.uuid; given = told.same.array.given; first = told.same.array.first })
    (λ t. omega (arith, here.first t)) here.accepted)
    (subst (λ (m : Members). g.B.Bank.tells → AreHeldSince (world_at (g.B.Bank.given c.args.bank) (g.B.Bank.tape c.in-Ok.array.parts.bank) c.args.backup (running_history array.parts)) array.parts.entries m) (sym told.members)
    (held-later (g.B.Bank.given c.args.bank) c.args.backup (running_history c.in-Ok.array.parts) (running_history array.parts) c.in-Ok.array.parts.members (grows-none (g.B.Bank.tape c.in-Ok.array.parts.bank))
    (record { same = record { uuid = told.same.array.uuid; given = told.same.array.given; first = told.same.array.first }; more = entries_of c.script_call-who.result told.entered.end (Shown c.in-Ok-status.status ∷ []); grown = told.entered.is })
    here.held))
    (subst (λ (b : g.row.B.Denot). IsEndOf g.B.Bank.tells array.parts.first array.parts.entries (g.B.Bank.tape b)) told.bank told.ended) c.requires.former)

pub returns-in-Err-status-clause-former : goal.returns-in-Err-status-clause-former
returns-in-Err-status-clause-former g c =
    let gone : c.halt-bank.result.0 ≡ c.in-Ok.array.parts.bank = c.halt-bank.ensures.bank ∙ ap (λ (a : RunningParts g.row.B.Denot). a.parts.bank) c.in-Err-status.ensures.unchanged in
    subst (λ (b : g.row.B.Denot). IsRunKept g.B.Bank.tells (g.B.Bank.given c.args.bank) (g.B.Bank.tape b) c.args.backup (IsIdle b c.has_room.new.epochs)) (sym gone)
    (idle_grown (g.B.Bank.given c.args.bank) c.args.backup c.args.epochs.items c.has_room.new.epochs.items c.has_room.ensures.same (flushes-grow c.in-Ok.ensures.tape) c.requires.former)

pub returns-in-Refused-clause-former : goal.returns-in-Refused-clause-former
returns-in-Refused-clause-former g c = idle_grown (g.B.Bank.given c.args.bank) c.args.backup c.args.epochs.items c.has_room.new.epochs.items c.has_room.ensures.same (flushes-grow c.in-Err.ensures.left_tape) c.requires.former

pub returns-in-NoMemory-clause-former : goal.returns-in-NoMemory-clause-former
returns-in-NoMemory-clause-former g c = idle_grown (g.B.Bank.given c.args.bank) c.args.backup c.args.epochs.items c.has_room.new.epochs.items c.has_room.ensures.same (flushes-grow c.in-Err.ensures.left_tape) c.requires.former

pub returns-in-Ok-status-clause-grows : goal.returns-in-Ok-status-clause-grows
returns-in-Ok-status-clause-grows g c =
    subst (λ (b : g.row.B.Denot). Grows g.B.Bank.tells (g.B.Bank.tape c.args.bank) (g.B.Bank.tape b)) (sym c.in-Ok-status.ensures.bank) (flushes-grow c.in-Ok.ensures.tape)

pub returns-in-Err-status-clause-grows : goal.returns-in-Err-status-clause-grows
returns-in-Err-status-clause-grows g c =
    let gone : c.halt-bank.result.0 ≡ c.in-Ok.array.parts.bank = c.halt-bank.ensures.bank ∙ ap (λ (a : RunningParts g.row.B.Denot). a.parts.bank) c.in-Err-status.ensures.unchanged in
    subst (λ (b : g.row.B.Denot). Grows g.B.Bank.tells (g.B.Bank.tape c.args.bank) (g.B.Bank.tape b)) (sym gone) (flushes-grow c.in-Ok.ensures.tape)

pub returns-in-Refused-clause-grows : goal.returns-in-Refused-clause-grows
returns-in-Refused-clause-grows g c = flushes-grow c.in-Err.ensures.left_tape

pub returns-in-NoMemory-clause-grows : goal.returns-in-NoMemory-clause-grows
returns-in-NoMemory-clause-grows g c = flushes-grow c.in-Err.ensures.left_tape

pub returns-then-not-has_room-clause-grows : goal.returns-then-not-has_room-clause-grows
returns-then-not-has_room-clause-grows g c = grows-none (g.B.Bank.tape c.args.bank)

pub returns-in-Ok-status-clause-never_falls : goal.returns-in-Ok-status-clause-never_falls
returns-in-Ok-status-clause-never_falls g c =
    subst (λ (b : g.row.B.Denot). NeverFalls (g.B.Bank.faults_of c.args.bank) (g.B.Bank.faults_of b)) (sym c.in-Ok-status.ensures.bank) c.in-Ok.ensures.counts.never_falls

pub returns-in-Err-status-clause-never_falls : goal.returns-in-Err-status-clause-never_falls
returns-in-Err-status-clause-never_falls g c =
    let gone : c.halt-bank.result.0 ≡ c.in-Ok.array.parts.bank = c.halt-bank.ensures.bank ∙ ap (λ (a : RunningParts g.row.B.Denot). a.parts.bank) c.in-Err-status.ensures.unchanged in
    subst (λ (b : g.row.B.Denot). NeverFalls (g.B.Bank.faults_of c.args.bank) (g.B.Bank.faults_of b)) (sym gone) c.in-Ok.ensures.counts.never_falls

pub returns-then-not-has_room-clause-written : goal.returns-then-not-has_room-clause-written
returns-then-not-has_room-clause-written g c told =
    let setting = setting_of g.B.Bank.tells (g.B.Bank.given c.args.bank) (g.B.Bank.tape c.args.bank) (g.B.Bank.tape c.args.bank) c.args.backup (g.B.Bank.faults_of c.args.bank) (g.B.Bank.faults_of c.args.bank) in
    written_idle setting c.args.epochs.items c.has_room.new.epochs.items (MayWrite (g.B.Bank.given c.args.bank) c.args.backup false (AsksAssemble c.args.uuid)) c.has_room.ensures.same (omega arith)

pub returns-in-Ok-status-clause-written : goal.returns-in-Ok-status-clause-written
returns-in-Ok-status-clause-written g c told =
    let found = c.in-Ok.array in
    let did = c.in-Ok.ensures in
    let array = c.status.new.array in
    let shown = c.in-Ok-status.ensures in
    let given = g.B.Bank.given c.args.bank in
    let what = AnsweredOutside (Assembled c.next_epoch-epoch.result c.in-Ok-status.status) in
    let setting = setting_of g.B.Bank.tells given (g.B.Bank.tape c.args.bank) (g.B.Bank.tape found.parts.bank) c.args.backup (g.B.Bank.faults_of c.args.bank) (g.B.Bank.faults_of found.parts.bank) in
    subst (λ (b : g.row.B.Denot). IsWritten (setting_of g.B.Bank.tells given (g.B.Bank.tape c.args.bank) (g.B.Bank.tape b) c.args.backup (g.B.Bank.faults_of c.args.bank) (g.B.Bank.faults_of b)) (histories_of c.args.epochs.items) (histories_of c.has_room.new.epochs.items ++ running_history array.parts ∷ []) (HasWritten given c.args.backup (AsksAssemble c.args.uuid) what)) (sym shown.bank)
    (opened_flushes setting (g.B.Bank.tape c.args.bank) refl c.args.epochs.items c.has_room.new.epochs.items c.has_room.ensures.same (running_history array.parts) (HasWritten given c.args.backup (AsksAssemble c.args.uuid) what)
    (shown.same.array.first ∙ (found_here given (g.B.Bank.tape found.parts.bank) c.args.backup c.args.uuid found did.found).first told) (subst (λ (b : g.row.B.Denot). IsEndOf g.B.Bank.tells array.parts.first array.parts.entries (g.B.Bank.tape b)) shown.bank shown.ended told) (did.tape told))

pub returns-in-Err-status-clause-written : goal.returns-in-Err-status-clause-written
returns-in-Err-status-clause-written g c told =
    let gone : c.halt-bank.result.0 ≡ c.in-Ok.array.parts.bank = c.halt-bank.ensures.bank ∙ ap (λ (a : RunningParts g.row.B.Denot). a.parts.bank) c.in-Err-status.ensures.unchanged in
    let given = g.B.Bank.given c.args.bank in
    subst (λ (b : g.row.B.Denot). IsWritten (setting_of g.B.Bank.tells given (g.B.Bank.tape c.args.bank) (g.B.Bank.tape b) c.args.backup (g.B.Bank.faults_of c.args.bank) (g.B.Bank.faults_of b)) (histories_of c.args.epochs.items) (histories_of c.has_room.new.epochs.items) (MayWrite given c.args.backup false (AsksAssemble c.args.uuid))) (sym gone)
    (idle_flushes (setting_of g.B.Bank.tells given (g.B.Bank.tape c.args.bank) (g.B.Bank.tape c.in-Ok.array.parts.bank) c.args.backup (g.B.Bank.faults_of c.args.bank) (g.B.Bank.faults_of c.in-Ok.array.parts.bank)) (g.B.Bank.tape c.args.bank) refl c.args.epochs.items c.has_room.new.epochs.items c.has_room.ensures.same
    (MayWrite given c.args.backup false (AsksAssemble c.args.uuid)) (c.in-Ok.ensures.tape told))

pub returns-in-Refused-clause-written : goal.returns-in-Refused-clause-written
returns-in-Refused-clause-written g c told =
    let left = c.in-Err.left.0 in
    let given = g.B.Bank.given c.args.bank in
    idle_flushes (setting_of g.B.Bank.tells given (g.B.Bank.tape c.args.bank) (g.B.Bank.tape left) c.args.backup (g.B.Bank.faults_of c.args.bank) (g.B.Bank.faults_of left)) (g.B.Bank.tape c.args.bank) refl c.args.epochs.items c.has_room.new.epochs.items c.has_room.ensures.same
    (HasWritten given c.args.backup (AsksAssemble c.args.uuid) _) (c.in-Err.ensures.left_tape told)

pub returns-in-NoMemory-clause-written : goal.returns-in-NoMemory-clause-written
returns-in-NoMemory-clause-written g c told =
    let left = c.in-Err.left.0 in
    let given = g.B.Bank.given c.args.bank in
    idle_flushes (setting_of g.B.Bank.tells given (g.B.Bank.tape c.args.bank) (g.B.Bank.tape left) c.args.backup (g.B.Bank.faults_of c.args.bank) (g.B.Bank.faults_of left)) (g.B.Bank.tape c.args.bank) refl c.args.epochs.items c.has_room.new.epochs.items c.has_room.ensures.same
    (MayWrite given c.args.backup false (AsksAssemble c.args.uuid)) (c.in-Err.ensures.left_tape told)

pub returns-in-Err-status-clause-given : goal.returns-in-Err-status-clause-given
returns-in-Err-status-clause-given g c =
    let gone : c.halt-bank.result.0 ≡ c.in-Ok.array.parts.bank = c.halt-bank.ensures.bank ∙ ap (λ (a : RunningParts g.row.B.Denot). a.parts.bank) c.in-Err-status.ensures.unchanged in
    subst (λ (b : g.row.B.Denot). g.B.Bank.given b ≡ g.B.Bank.given c.args.bank) (sym gone) c.in-Ok.ensures.given

pub halt-bank-requires : goal.halt-bank-requires
halt-bank-requires g c =
    record {
      next = ap (λ (w : Who). w.number) c.script_call-who.ensures ∙ ap (λ (a : RunningParts g.row.B.Denot). next_number 0 a.parts.entries) (sym c.in-Err-status.ensures.unchanged) ∙ ap (λ (w : Who). next_number w.caller c.status.new.array.parts.entries) (sym c.script_call-who.ensures);
      caller = λ is. omega (arith, is, ap (λ (w : Who). w.caller) c.script_call-who.ensures);
    }
