use Rattle.std.proofs.Common.{false, subst, sym}
use Rattle.std.specs.Prelude.{IsTrue}
use Rattle.run_requests.specs.bank_Given.{NeverFalls}
use Rattle.run_requests.specs.run_specs_Making.{setting_of}
use Rattle.run_requests.specs.run_specs_States.{bank_in, course_in, histories_in}
use Rattle.run_requests.specs.run_specs_Written.{IsWrittenBy}
use Rattle.run_requests.specs.run_specs_the_State.{State}
use Rattle.run_line_answers.proofs.answers.answer.Goals as goal

pub returns-in-Running-clause-never_falls : goal.returns-in-Running-clause-never_falls
returns-in-Running-clause-never_falls g c =
    subst (λ (s : State g.row.B.Denot). NeverFalls (g.B.Bank.faults_of (bank_in s)) (g.B.Bank.faults_of (bank_in c.answer_running.result.0))) (sym c.in-Running.is) c.answer_running.ensures.never_falls

pub returns-in-Idle-clause-written : goal.returns-in-Idle-clause-written
returns-in-Idle-clause-written g c =
    let left = c.answer_idle.result.0 in
    subst (λ (s : State g.row.B.Denot). g.B.Bank.tells → IsWrittenBy (setting_of g.B.Bank.tells (g.B.Bank.given (bank_in s)) (g.B.Bank.tape (bank_in s)) (g.B.Bank.tape (bank_in left)) c.args.backup (g.B.Bank.faults_of (bank_in s)) (g.B.Bank.faults_of (bank_in left))) (course_in s).running (histories_in s) (histories_in left) c.args.line c.answer_idle.result.1)
    (sym c.in-Idle.is) c.answer_idle.ensures.written

pub returns-in-Running-clause-written : goal.returns-in-Running-clause-written
returns-in-Running-clause-written g c =
    let left = c.answer_running.result.0 in
    subst (λ (s : State g.row.B.Denot). g.B.Bank.tells → IsWrittenBy (setting_of g.B.Bank.tells (g.B.Bank.given (bank_in s)) (g.B.Bank.tape (bank_in s)) (g.B.Bank.tape (bank_in left)) c.args.backup (g.B.Bank.faults_of (bank_in s)) (g.B.Bank.faults_of (bank_in left))) (course_in s).running (histories_in s) (histories_in left) c.args.line c.answer_running.result.1)
    (sym c.in-Running.is) c.answer_running.ensures.written

pub returns-in-Idle-clause-alerts : goal.returns-in-Idle-clause-alerts
returns-in-Idle-clause-alerts g c asked runs = absurd (let none : IsTrue false = subst (λ (s : State g.row.B.Denot). IsTrue (course_in s).running) c.in-Idle.is runs in cc)

pub returns-in-Running-clause-alerts : goal.returns-in-Running-clause-alerts
returns-in-Running-clause-alerts g c asked runs = c.answer_running.ensures.alerts asked
