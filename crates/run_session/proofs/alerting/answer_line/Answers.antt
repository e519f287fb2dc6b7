use Rattle.std.proofs.Common.{ℕ, ◌+◌, ◌*◌, ◌≤◌, List, length, inl, refl, subst, arith, vec_capacity, Result}
use Rattle.std.specs.Prelude.{IfOk}
use Rattle.run_blocks.specs.raid_types_the_NoMemory.{NoMemory}
use Rattle.run_blocks.specs.history_monitor_the_Alert.{Alert}
use Rattle.run_blocks.specs.history_monitor_Hooks.{wanted_by}
use Rattle.run_blocks.specs.Shown.{longest_reply}
use Rattle.run_blocks.specs.run_specs_Making.{setting_of}
use Rattle.run_blocks.specs.run_specs_States.{histories_in, bank_in, course_in}
use Rattle.run_blocks.specs.run_specs_Written.{MayWrite}
use Rattle.run_blocks.proofs.run_specs_Causes.{grows-none}
use Rattle.run_blocks.proofs.run_specs_Losses.{losses-kept}
use Rattle.run_blocks.proofs.run_line_answers_Turns.{grown_kept}
use Rattle.run_blocks.proofs.run_requests_Writing.{written-nothing}
use Rattle.run_session.specs.Alerting.{AreToldNow}
use Rattle.run_session.proofs.Replied.{turn_rooms, turns_scanned}
use Rattle.run_session.proofs.alerting.answer_line.Goals as goal

pub returns-in-Ok-clause-alerts : goal.returns-in-Ok-clause-alerts
returns-in-Ok-clause-alerts g c =
    turns_scanned _ c.args.state c.answer.result.0 c.args.line c.in-Ok.alerts (goal.G-post g (wanted_by c.args.hook.now)) c.args.monitor.now c.alerts_for.new.monitor c.answer.result.1 c.answer.ensures.answered c.answer.ensures.alerts
    (subst (λ (r : Result (List Alert) NoMemory). IfOk r (λ list. AreToldNow (goal.G-post g (wanted_by c.args.hook.now)) c.args.state c.args.monitor.now c.alerts_for.new.monitor c.args.line list)) c.in-Ok.is c.alerts_for.ensures.told)

pub returns-in-Ok-clause-room : goal.returns-in-Ok-clause-room
returns-in-Ok-clause-room g c =
    turn_rooms _ c.args.state c.answer.result.0 c.args.line c.in-Ok.alerts c.answer.result.1 (vec_capacity c.alerts_for.new.text) c.answer.ensures.answered c.answer.ensures.alerts
    (subst (λ (r : Result (List Alert) NoMemory). IfOk r (λ list. longest_reply + 40 * length list ≤ vec_capacity c.alerts_for.new.text)) c.in-Ok.is c.alerts_for.ensures.room)

pub returns-in-Err-clause-answered : goal.returns-in-Err-clause-answered
returns-in-Err-clause-answered g c =
    let state = c.args.state in
    let faults = g.B.Bank.faults_of (bank_in state) in
    record {
      own = c.requires.own;
      losses = losses-kept (setting_of g.B.Bank.tells (g.B.Bank.given (bank_in state)) (g.B.Bank.tape (bank_in state)) (g.B.Bank.tape (bank_in state)) c.args.backup faults faults) (histories_in state);
      grown = grown_kept (histories_in state);
      course = inl refl;
    }

pub returns-in-Err-clause-written : goal.returns-in-Err-clause-written
returns-in-Err-clause-written g c told =
    let state = c.args.state in
    let faults = g.B.Bank.faults_of (bank_in state) in
    written-nothing (setting_of g.B.Bank.tells (g.B.Bank.given (bank_in state)) (g.B.Bank.tape (bank_in state)) (g.B.Bank.tape (bank_in state)) c.args.backup faults faults) (histories_in state) (MayWrite (g.B.Bank.given (bank_in state)) c.args.backup (course_in state).running c.args.line) (omega arith)

pub returns-in-Err-clause-grows : goal.returns-in-Err-clause-grows
returns-in-Err-clause-grows g c = grows-none (g.B.Bank.tape (bank_in c.args.state))
