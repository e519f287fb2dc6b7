use Rattle.std.proofs.Common.{◌≡◌, inl, ◌++◌, ◌∷◌, [], List, refl, sym, subst, arith, append-nil}
use Rattle.lane_shared.specs.bank_Given.{NeverFalls}
use Rattle.lane_shared.specs.array_members_Moving.{Grows}
use Rattle.run_line_answers.specs.run_specs_Ended.{IsRunKept}
use Rattle.run_line_answers.specs.run_specs_the_Answered.{Answered}
use Rattle.run_line_answers.specs.run_specs_the_State.{State}
use Rattle.run_line_answers.specs.run_specs_the_State_TheVariants.{Idle}
use Rattle.run_line_answers.specs.run_specs_Making.{setting_of}
use Rattle.run_line_answers.specs.run_specs_States.{histories_in, bank_in, course_in, RunsOwn, IsBlockAnswered}
use Rattle.run_line_answers.specs.run_specs_Written.{IsWritten}
use Rattle.run_line_answers.proofs.run_requests_Writing.{written-nothing}
use Rattle.run_blocks.proofs.Amid.{amid-none}
use Rattle.run_blocks.proofs.BlockAnswers.{block-unanswered, block-still, block-idle, some-lines, refusals-all}
use Rattle.run_blocks.proofs.answering.answer_block.Goals as goal

pub returns-in_default-clause-answered : goal.returns-in_default-clause-answered
returns-in_default-clause-answered g c =
    let state = c.args.state in
    let setting = setting_of g.B.Bank.tells (g.B.Bank.given (bank_in state)) (g.B.Bank.tape (bank_in state)) (g.B.Bank.tape (bank_in state)) c.args.backup (g.B.Bank.faults_of (bank_in state)) (g.B.Bank.faults_of (bank_in state)) in
    subst (λ (l : List Answered). IsBlockAnswered setting state state (c.args.first.now ++ (c.args.second.now ++ c.args.worker ∷ [])) l) (sym c.new.ensures.items)
    (block-unanswered setting state state (c.args.first.now ++ (c.args.second.now ++ c.args.worker ∷ [])) (block-still setting state c.requires.own) (some-lines c.args.first.now c.args.second.now c.args.worker)
    (inl (amid-none (histories_in state) c.args.first.now c.args.second.now c.args.worker c.requires.order.0 c.requires.order.1 c.requires.order.2 (course_in state) (course_in state) refl)))

pub returns-in_default-clause-written : goal.returns-in_default-clause-written
returns-in_default-clause-written g c t =
    let state = c.args.state in
    written-nothing (setting_of g.B.Bank.tells (g.B.Bank.given (bank_in state)) (g.B.Bank.tape (bank_in state)) (g.B.Bank.tape (bank_in state)) c.args.backup (g.B.Bank.faults_of (bank_in state)) (g.B.Bank.faults_of (bank_in state))) (histories_in state) (λ slot. ⊥) (omega arith)

pub returns-in-Idle-clause-answered : goal.returns-in-Idle-clause-answered
returns-in-Idle-clause-answered g c =
    let idle : State g.row.B.Denot = Idle c.in-Idle.bank c.in-Idle.epochs in
    let lines = c.args.first.now ++ (c.args.second.now ++ c.args.worker ∷ []) in
    subst (λ (s : State g.row.B.Denot). IsBlockAnswered (setting_of g.B.Bank.tells (g.B.Bank.given (bank_in s)) (g.B.Bank.tape (bank_in s)) (g.B.Bank.tape c.in-Idle.bank) c.args.backup (g.B.Bank.faults_of (bank_in s)) (g.B.Bank.faults_of c.in-Idle.bank)) s idle lines c.refuse_lines-whats-in-Idle.result.items) (sym c.in-Idle.is)
    (block-idle (setting_of g.B.Bank.tells (g.B.Bank.given c.in-Idle.bank) (g.B.Bank.tape c.in-Idle.bank) (g.B.Bank.tape c.in-Idle.bank) c.args.backup (g.B.Bank.faults_of c.in-Idle.bank) (g.B.Bank.faults_of c.in-Idle.bank)) c.in-Idle.bank c.in-Idle.epochs lines c.refuse_lines-whats-in-Idle.result.items
    (subst (λ (s : State g.row.B.Denot). RunsOwn s) c.in-Idle.is c.requires.own)
    (refusals-all c.args.first.now c.args.second.now c.args.worker c.in-Ok.ensures.items c.refuse_lines.ensures.answers c.refuse_lines-whats.ensures.answers c.refuse_lines-whats-in-Idle.ensures.answers))

pub returns-in-Idle-clause-written : goal.returns-in-Idle-clause-written
returns-in-Idle-clause-written g c t =
    subst (λ (s : State g.row.B.Denot). IsWritten (setting_of g.B.Bank.tells (g.B.Bank.given (bank_in s)) (g.B.Bank.tape (bank_in s)) (g.B.Bank.tape c.in-Idle.bank) c.args.backup (g.B.Bank.faults_of (bank_in s)) (g.B.Bank.faults_of c.in-Idle.bank)) (histories_in s) (histories_in (Idle c.in-Idle.bank c.in-Idle.epochs)) (λ slot. ⊥)) (sym c.in-Idle.is)
    (written-nothing (setting_of g.B.Bank.tells (g.B.Bank.given c.in-Idle.bank) (g.B.Bank.tape c.in-Idle.bank) (g.B.Bank.tape c.in-Idle.bank) c.args.backup (g.B.Bank.faults_of c.in-Idle.bank) (g.B.Bank.faults_of c.in-Idle.bank)) (histories_in (Idle c.in-Idle.bank c.in-Idle.epochs)) (λ slot. ⊥) (omega arith))

pub returns-in-Running-clause-answered : goal.returns-in-Running-clause-answered
returns-in-Running-clause-answered g c = subst (λ (s : State g.row.B.Denot). IsBlockAnswered (setting_of g.B.Bank.tells (g.B.Bank.given (bank_in s)) (g.B.Bank.tape (bank_in s)) (g.B.Bank.tape (bank_in c.answer_running.result.0)) c.args.backup (g.B.Bank.faults_of (bank_in s)) (g.B.Bank.faults_of (bank_in c.answer_running.result.0))) s c.answer_running.result.0 (c.args.first.now ++ (c.args.second.now ++ c.args.worker ∷ [])) c.answer_running.result.1.items) (sym c.in-Running.is) c.answer_running.ensures.answered

pub returns-in-Running-clause-written : goal.returns-in-Running-clause-written
returns-in-Running-clause-written g c = subst (λ (s : State g.row.B.Denot). g.B.Bank.tells → IsWritten (setting_of g.B.Bank.tells (g.B.Bank.given (bank_in s)) (g.B.Bank.tape (bank_in s)) (g.B.Bank.tape (bank_in c.answer_running.result.0)) c.args.backup (g.B.Bank.faults_of (bank_in s)) (g.B.Bank.faults_of (bank_in c.answer_running.result.0))) (histories_in s) (histories_in c.answer_running.result.0) (λ slot. ⊥)) (sym c.in-Running.is) c.answer_running.ensures.written

pub returns-in-Running-clause-former : goal.returns-in-Running-clause-former
returns-in-Running-clause-former g c = subst (λ (s : State g.row.B.Denot). IsRunKept g.B.Bank.tells (g.B.Bank.given (bank_in s)) (g.B.Bank.tape (bank_in c.answer_running.result.0)) c.args.backup c.answer_running.result.0) (sym c.in-Running.is) c.answer_running.ensures.former

pub returns-in-Running-clause-never_falls : goal.returns-in-Running-clause-never_falls
returns-in-Running-clause-never_falls g c = subst (λ (s : State g.row.B.Denot). NeverFalls (g.B.Bank.faults_of (bank_in s)) (g.B.Bank.faults_of (bank_in c.answer_running.result.0))) (sym c.in-Running.is) c.answer_running.ensures.never_falls

pub returns-in-Running-clause-grows : goal.returns-in-Running-clause-grows
returns-in-Running-clause-grows g c = subst (λ (s : State g.row.B.Denot). Grows g.B.Bank.tells (g.B.Bank.tape (bank_in s)) (g.B.Bank.tape (bank_in c.answer_running.result.0))) (sym c.in-Running.is) c.answer_running.ensures.grows

pub returns-in-Running-clause-given : goal.returns-in-Running-clause-given
returns-in-Running-clause-given g c = subst (λ (s : State g.row.B.Denot). g.B.Bank.given (bank_in c.answer_running.result.0) ≡ g.B.Bank.given (bank_in s)) (sym c.in-Running.is) c.answer_running.ensures.given

pub answer_running-requires-clause-own : goal.answer_running-requires-clause-own
answer_running-requires-clause-own g c κs within = subst (λ (s : State g.row.B.Denot). RunsOwn s) c.in-Running.is c.requires.own

pub answer_running-requires-clause-former : goal.answer_running-requires-clause-former
answer_running-requires-clause-former g c κs within =
    subst (λ (s : State g.row.B.Denot). IsRunKept g.B.Bank.tells (g.B.Bank.given (bank_in s)) (g.B.Bank.tape (bank_in s)) c.args.backup s) c.in-Running.is c.requires.former

pub returns-in-Idle-clause-former : goal.returns-in-Idle-clause-former
returns-in-Idle-clause-former g c =
    subst (λ (s : State g.row.B.Denot). IsRunKept g.B.Bank.tells (g.B.Bank.given (bank_in s)) (g.B.Bank.tape c.in-Idle.bank) c.args.backup (Idle c.in-Idle.bank c.in-Idle.epochs)) (sym c.in-Idle.is)
    (subst (λ (s : State g.row.B.Denot). IsRunKept g.B.Bank.tells (g.B.Bank.given (bank_in s)) (g.B.Bank.tape (bank_in s)) c.args.backup s) c.in-Idle.is c.requires.former)

pub returns-in-Idle-clause-never_falls : goal.returns-in-Idle-clause-never_falls
returns-in-Idle-clause-never_falls g c = subst (λ (s : State g.row.B.Denot). NeverFalls (g.B.Bank.faults_of (bank_in s)) (g.B.Bank.faults_of c.in-Idle.bank)) (sym c.in-Idle.is) (λ slot. omega arith)

pub returns-in-Idle-clause-grows : goal.returns-in-Idle-clause-grows
returns-in-Idle-clause-grows g c = subst (λ (s : State g.row.B.Denot). Grows g.B.Bank.tells (g.B.Bank.tape (bank_in s)) (g.B.Bank.tape c.in-Idle.bank)) (sym c.in-Idle.is) (record { more = λ t. ([], sym (append-nil (g.B.Bank.tape c.in-Idle.bank))) })

pub returns-in-Idle-clause-given : goal.returns-in-Idle-clause-given
returns-in-Idle-clause-given g c = subst (λ (s : State g.row.B.Denot). g.B.Bank.given c.in-Idle.bank ≡ g.B.Bank.given (bank_in s)) (sym c.in-Idle.is) refl

pub returns-in_default-clause-never_falls : goal.returns-in_default-clause-never_falls
returns-in_default-clause-never_falls g c = λ slot. omega arith

pub returns-in_default-clause-grows : goal.returns-in_default-clause-grows
returns-in_default-clause-grows g c = record { more = λ t. ([], sym (append-nil (g.B.Bank.tape (bank_in c.args.state)))) }
