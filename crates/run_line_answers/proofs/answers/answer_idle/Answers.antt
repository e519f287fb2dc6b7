use Rattle.std.proofs.Common.{refl, sym, subst, arith, length}
use Rattle.std.specs.Prelude.{false}
use Rattle.run_requests.specs.raid_types_the_Refusal_TheVariants.{NotRunning}
use Rattle.run_requests.specs.script_the_Line.{Line}
use Rattle.run_requests.specs.run_specs_Making.{setting_of}
use Rattle.run_requests.specs.run_specs_Replies.{IsRefusedOutside}
use Rattle.run_requests.specs.run_specs_States.{IsTurn}
use Rattle.run_requests.specs.run_specs_the_Answered.{Answered}
use Rattle.run_requests.specs.run_specs_the_State_TheVariants.{Idle as IsIdle}
use Rattle.run_line_answers.proofs.Turns.{turn_idle}
use Rattle.run_requests.specs.run_specs_Written.{HasWritten}
use Rattle.run_requests.proofs.Writing.{written_idle}
use Rattle.run_line_answers.proofs.answers.answer_idle.Goals as goal

pub returns-in-Read-clause-answered : goal.returns-in-Read-clause-answered
returns-in-Read-clause-answered g c =
    let setting = setting_of g.B.Bank.tells (g.B.Bank.given c.args.bank) (g.B.Bank.tape c.args.bank) (g.B.Bank.tape c.args.bank) c.args.backup (g.B.Bank.faults_of c.args.bank) (g.B.Bank.faults_of c.args.bank) in
    subst (λ (what : Answered). IsTurn setting (IsIdle c.args.bank c.args.epochs) (IsIdle c.args.bank c.args.epochs) c.args.line what) (sym c.refused.ensures)
    (turn_idle setting c.args.bank c.args.epochs c.args.epochs refl c.requires.own c.args.bank c.args.line NotRunning (λ t. omega arith)
    (subst (λ (l : Line). IsRefusedOutside setting false (length (g.B.Bank.tape c.args.bank)) l NotRunning) (sym c.in-Read.is) refl))

pub returns-in-Write-clause-answered : goal.returns-in-Write-clause-answered
returns-in-Write-clause-answered g c =
    let setting = setting_of g.B.Bank.tells (g.B.Bank.given c.args.bank) (g.B.Bank.tape c.args.bank) (g.B.Bank.tape c.args.bank) c.args.backup (g.B.Bank.faults_of c.args.bank) (g.B.Bank.faults_of c.args.bank) in
    subst (λ (what : Answered). IsTurn setting (IsIdle c.args.bank c.args.epochs) (IsIdle c.args.bank c.args.epochs) c.args.line what) (sym c.refused-in-Write.ensures)
    (turn_idle setting c.args.bank c.args.epochs c.args.epochs refl c.requires.own c.args.bank c.args.line NotRunning (λ t. omega arith)
    (subst (λ (l : Line). IsRefusedOutside setting false (length (g.B.Bank.tape c.args.bank)) l NotRunning) (sym c.in-Write.is) refl))

pub returns-in-Flush-clause-answered : goal.returns-in-Flush-clause-answered
returns-in-Flush-clause-answered g c =
    let setting = setting_of g.B.Bank.tells (g.B.Bank.given c.args.bank) (g.B.Bank.tape c.args.bank) (g.B.Bank.tape c.args.bank) c.args.backup (g.B.Bank.faults_of c.args.bank) (g.B.Bank.faults_of c.args.bank) in
    subst (λ (what : Answered). IsTurn setting (IsIdle c.args.bank c.args.epochs) (IsIdle c.args.bank c.args.epochs) c.args.line what) (sym c.refused-in-Flush.ensures)
    (turn_idle setting c.args.bank c.args.epochs c.args.epochs refl c.requires.own c.args.bank c.args.line NotRunning (λ t. omega arith)
    (subst (λ (l : Line). IsRefusedOutside setting false (length (g.B.Bank.tape c.args.bank)) l NotRunning) (sym c.in-Flush.is) refl))

pub returns-in-Fail-clause-answered : goal.returns-in-Fail-clause-answered
returns-in-Fail-clause-answered g c =
    let setting = setting_of g.B.Bank.tells (g.B.Bank.given c.args.bank) (g.B.Bank.tape c.args.bank) (g.B.Bank.tape c.args.bank) c.args.backup (g.B.Bank.faults_of c.args.bank) (g.B.Bank.faults_of c.args.bank) in
    subst (λ (what : Answered). IsTurn setting (IsIdle c.args.bank c.args.epochs) (IsIdle c.args.bank c.args.epochs) c.args.line what) (sym c.refused-in-Fail.ensures)
    (turn_idle setting c.args.bank c.args.epochs c.args.epochs refl c.requires.own c.args.bank c.args.line NotRunning (λ t. omega arith)
    (subst (λ (l : Line). IsRefusedOutside setting false (length (g.B.Bank.tape c.args.bank)) l NotRunning) (sym c.in-Fail.is) refl))

pub returns-in-Add-clause-answered : goal.returns-in-Add-clause-answered
returns-in-Add-clause-answered g c =
    let setting = setting_of g.B.Bank.tells (g.B.Bank.given c.args.bank) (g.B.Bank.tape c.args.bank) (g.B.Bank.tape c.args.bank) c.args.backup (g.B.Bank.faults_of c.args.bank) (g.B.Bank.faults_of c.args.bank) in
    subst (λ (what : Answered). IsTurn setting (IsIdle c.args.bank c.args.epochs) (IsIdle c.args.bank c.args.epochs) c.args.line what) (sym c.refused-in-Add.ensures)
    (turn_idle setting c.args.bank c.args.epochs c.args.epochs refl c.requires.own c.args.bank c.args.line NotRunning (λ t. omega arith)
    (subst (λ (l : Line). IsRefusedOutside setting false (length (g.B.Bank.tape c.args.bank)) l NotRunning) (sym c.in-Add.is) refl))

pub returns-in-ArraySize-clause-answered : goal.returns-in-ArraySize-clause-answered
returns-in-ArraySize-clause-answered g c =
    let setting = setting_of g.B.Bank.tells (g.B.Bank.given c.args.bank) (g.B.Bank.tape c.args.bank) (g.B.Bank.tape c.args.bank) c.args.backup (g.B.Bank.faults_of c.args.bank) (g.B.Bank.faults_of c.args.bank) in
    subst (λ (what : Answered). IsTurn setting (IsIdle c.args.bank c.args.epochs) (IsIdle c.args.bank c.args.epochs) c.args.line what) (sym c.refused-in-ArraySize.ensures)
    (turn_idle setting c.args.bank c.args.epochs c.args.epochs refl c.requires.own c.args.bank c.args.line NotRunning (λ t. omega arith)
    (subst (λ (l : Line). IsRefusedOutside setting false (length (g.B.Bank.tape c.args.bank)) l NotRunning) (sym c.in-ArraySize.is) refl))

pub returns-in-Grow-clause-answered : goal.returns-in-Grow-clause-answered
returns-in-Grow-clause-answered g c =
    let setting = setting_of g.B.Bank.tells (g.B.Bank.given c.args.bank) (g.B.Bank.tape c.args.bank) (g.B.Bank.tape c.args.bank) c.args.backup (g.B.Bank.faults_of c.args.bank) (g.B.Bank.faults_of c.args.bank) in
    subst (λ (what : Answered). IsTurn setting (IsIdle c.args.bank c.args.epochs) (IsIdle c.args.bank c.args.epochs) c.args.line what) (sym c.refused-in-Grow.ensures)
    (turn_idle setting c.args.bank c.args.epochs c.args.epochs refl c.requires.own c.args.bank c.args.line NotRunning (λ t. omega arith)
    (subst (λ (l : Line). IsRefusedOutside setting false (length (g.B.Bank.tape c.args.bank)) l NotRunning) (sym c.in-Grow.is) refl))

pub returns-in-Step-clause-answered : goal.returns-in-Step-clause-answered
returns-in-Step-clause-answered g c =
    let setting = setting_of g.B.Bank.tells (g.B.Bank.given c.args.bank) (g.B.Bank.tape c.args.bank) (g.B.Bank.tape c.args.bank) c.args.backup (g.B.Bank.faults_of c.args.bank) (g.B.Bank.faults_of c.args.bank) in
    subst (λ (what : Answered). IsTurn setting (IsIdle c.args.bank c.args.epochs) (IsIdle c.args.bank c.args.epochs) c.args.line what) (sym c.refused-in-Step.ensures)
    (turn_idle setting c.args.bank c.args.epochs c.args.epochs refl c.requires.own c.args.bank c.args.line NotRunning (λ t. omega arith)
    (subst (λ (l : Line). IsRefusedOutside setting false (length (g.B.Bank.tape c.args.bank)) l NotRunning) (sym c.in-Step.is) refl))

pub returns-in-Wait-clause-answered : goal.returns-in-Wait-clause-answered
returns-in-Wait-clause-answered g c =
    let setting = setting_of g.B.Bank.tells (g.B.Bank.given c.args.bank) (g.B.Bank.tape c.args.bank) (g.B.Bank.tape c.args.bank) c.args.backup (g.B.Bank.faults_of c.args.bank) (g.B.Bank.faults_of c.args.bank) in
    subst (λ (what : Answered). IsTurn setting (IsIdle c.args.bank c.args.epochs) (IsIdle c.args.bank c.args.epochs) c.args.line what) (sym c.refused-in-Wait.ensures)
    (turn_idle setting c.args.bank c.args.epochs c.args.epochs refl c.requires.own c.args.bank c.args.line NotRunning (λ t. omega arith)
    (subst (λ (l : Line). IsRefusedOutside setting false (length (g.B.Bank.tape c.args.bank)) l NotRunning) (sym c.in-Wait.is) refl))

pub returns-in-Stop-clause-answered : goal.returns-in-Stop-clause-answered
returns-in-Stop-clause-answered g c =
    let setting = setting_of g.B.Bank.tells (g.B.Bank.given c.args.bank) (g.B.Bank.tape c.args.bank) (g.B.Bank.tape c.args.bank) c.args.backup (g.B.Bank.faults_of c.args.bank) (g.B.Bank.faults_of c.args.bank) in
    subst (λ (what : Answered). IsTurn setting (IsIdle c.args.bank c.args.epochs) (IsIdle c.args.bank c.args.epochs) c.args.line what) (sym c.refused-in-Stop.ensures)
    (turn_idle setting c.args.bank c.args.epochs c.args.epochs refl c.requires.own c.args.bank c.args.line NotRunning (λ t. omega arith)
    (subst (λ (l : Line). IsRefusedOutside setting false (length (g.B.Bank.tape c.args.bank)) l NotRunning) (sym c.in-Stop.is) refl))

pub returns-in-Halt-clause-answered : goal.returns-in-Halt-clause-answered
returns-in-Halt-clause-answered g c =
    let setting = setting_of g.B.Bank.tells (g.B.Bank.given c.args.bank) (g.B.Bank.tape c.args.bank) (g.B.Bank.tape c.args.bank) c.args.backup (g.B.Bank.faults_of c.args.bank) (g.B.Bank.faults_of c.args.bank) in
    subst (λ (what : Answered). IsTurn setting (IsIdle c.args.bank c.args.epochs) (IsIdle c.args.bank c.args.epochs) c.args.line what) (sym c.refused-in-Halt.ensures)
    (turn_idle setting c.args.bank c.args.epochs c.args.epochs refl c.requires.own c.args.bank c.args.line NotRunning (λ t. omega arith)
    (subst (λ (l : Line). IsRefusedOutside setting false (length (g.B.Bank.tape c.args.bank)) l NotRunning) (sym c.in-Halt.is) refl))

pub returns-in-Detail-clause-answered : goal.returns-in-Detail-clause-answered
returns-in-Detail-clause-answered g c =
    let setting = setting_of g.B.Bank.tells (g.B.Bank.given c.args.bank) (g.B.Bank.tape c.args.bank) (g.B.Bank.tape c.args.bank) c.args.backup (g.B.Bank.faults_of c.args.bank) (g.B.Bank.faults_of c.args.bank) in
    subst (λ (what : Answered). IsTurn setting (IsIdle c.args.bank c.args.epochs) (IsIdle c.args.bank c.args.epochs) c.args.line what) (sym c.refused-in-Detail.ensures)
    (turn_idle setting c.args.bank c.args.epochs c.args.epochs refl c.requires.own c.args.bank c.args.line NotRunning (λ t. omega arith)
    (subst (λ (l : Line). IsRefusedOutside setting false (length (g.B.Bank.tape c.args.bank)) l NotRunning) (sym c.in-Detail.is) refl))

pub returns-in-Mdstat-clause-answered : goal.returns-in-Mdstat-clause-answered
returns-in-Mdstat-clause-answered g c =
    let setting = setting_of g.B.Bank.tells (g.B.Bank.given c.args.bank) (g.B.Bank.tape c.args.bank) (g.B.Bank.tape c.args.bank) c.args.backup (g.B.Bank.faults_of c.args.bank) (g.B.Bank.faults_of c.args.bank) in
    subst (λ (what : Answered). IsTurn setting (IsIdle c.args.bank c.args.epochs) (IsIdle c.args.bank c.args.epochs) c.args.line what) (sym c.refused-in-Mdstat.ensures)
    (turn_idle setting c.args.bank c.args.epochs c.args.epochs refl c.requires.own c.args.bank c.args.line NotRunning (λ t. omega arith)
    (subst (λ (l : Line). IsRefusedOutside setting false (length (g.B.Bank.tape c.args.bank)) l NotRunning) (sym c.in-Mdstat.is) refl))

pub returns-in-Alerts-clause-answered : goal.returns-in-Alerts-clause-answered
returns-in-Alerts-clause-answered g c =
    let setting = setting_of g.B.Bank.tells (g.B.Bank.given c.args.bank) (g.B.Bank.tape c.args.bank) (g.B.Bank.tape c.args.bank) c.args.backup (g.B.Bank.faults_of c.args.bank) (g.B.Bank.faults_of c.args.bank) in
    subst (λ (what : Answered). IsTurn setting (IsIdle c.args.bank c.args.epochs) (IsIdle c.args.bank c.args.epochs) c.args.line what) (sym c.refused-in-Alerts.ensures)
    (turn_idle setting c.args.bank c.args.epochs c.args.epochs refl c.requires.own c.args.bank c.args.line NotRunning (λ t. omega arith)
    (subst (λ (l : Line). IsRefusedOutside setting false (length (g.B.Bank.tape c.args.bank)) l NotRunning) (sym c.in-Alerts.is) refl))

pub returns-in-Read-clause-written : goal.returns-in-Read-clause-written
returns-in-Read-clause-written g c told =
    let setting = setting_of g.B.Bank.tells (g.B.Bank.given c.args.bank) (g.B.Bank.tape c.args.bank) (g.B.Bank.tape c.args.bank) c.args.backup (g.B.Bank.faults_of c.args.bank) (g.B.Bank.faults_of c.args.bank) in
    written_idle setting c.args.epochs.items c.args.epochs.items (HasWritten (g.B.Bank.given c.args.bank) c.args.backup c.args.line _) refl (omega arith)

pub returns-in-Write-clause-written : goal.returns-in-Write-clause-written
returns-in-Write-clause-written g c told =
    let setting = setting_of g.B.Bank.tells (g.B.Bank.given c.args.bank) (g.B.Bank.tape c.args.bank) (g.B.Bank.tape c.args.bank) c.args.backup (g.B.Bank.faults_of c.args.bank) (g.B.Bank.faults_of c.args.bank) in
    written_idle setting c.args.epochs.items c.args.epochs.items (HasWritten (g.B.Bank.given c.args.bank) c.args.backup c.args.line _) refl (omega arith)

pub returns-in-Flush-clause-written : goal.returns-in-Flush-clause-written
returns-in-Flush-clause-written g c told =
    let setting = setting_of g.B.Bank.tells (g.B.Bank.given c.args.bank) (g.B.Bank.tape c.args.bank) (g.B.Bank.tape c.args.bank) c.args.backup (g.B.Bank.faults_of c.args.bank) (g.B.Bank.faults_of c.args.bank) in
    written_idle setting c.args.epochs.items c.args.epochs.items (HasWritten (g.B.Bank.given c.args.bank) c.args.backup c.args.line _) refl (omega arith)

pub returns-in-Fail-clause-written : goal.returns-in-Fail-clause-written
returns-in-Fail-clause-written g c told =
    let setting = setting_of g.B.Bank.tells (g.B.Bank.given c.args.bank) (g.B.Bank.tape c.args.bank) (g.B.Bank.tape c.args.bank) c.args.backup (g.B.Bank.faults_of c.args.bank) (g.B.Bank.faults_of c.args.bank) in
    written_idle setting c.args.epochs.items c.args.epochs.items (HasWritten (g.B.Bank.given c.args.bank) c.args.backup c.args.line _) refl (omega arith)

pub returns-in-Add-clause-written : goal.returns-in-Add-clause-written
returns-in-Add-clause-written g c told =
    let setting = setting_of g.B.Bank.tells (g.B.Bank.given c.args.bank) (g.B.Bank.tape c.args.bank) (g.B.Bank.tape c.args.bank) c.args.backup (g.B.Bank.faults_of c.args.bank) (g.B.Bank.faults_of c.args.bank) in
    written_idle setting c.args.epochs.items c.args.epochs.items (HasWritten (g.B.Bank.given c.args.bank) c.args.backup c.args.line _) refl (omega arith)

pub returns-in-ArraySize-clause-written : goal.returns-in-ArraySize-clause-written
returns-in-ArraySize-clause-written g c told =
    let setting = setting_of g.B.Bank.tells (g.B.Bank.given c.args.bank) (g.B.Bank.tape c.args.bank) (g.B.Bank.tape c.args.bank) c.args.backup (g.B.Bank.faults_of c.args.bank) (g.B.Bank.faults_of c.args.bank) in
    written_idle setting c.args.epochs.items c.args.epochs.items (HasWritten (g.B.Bank.given c.args.bank) c.args.backup c.args.line _) refl (omega arith)

pub returns-in-Grow-clause-written : goal.returns-in-Grow-clause-written
returns-in-Grow-clause-written g c told =
    let setting = setting_of g.B.Bank.tells (g.B.Bank.given c.args.bank) (g.B.Bank.tape c.args.bank) (g.B.Bank.tape c.args.bank) c.args.backup (g.B.Bank.faults_of c.args.bank) (g.B.Bank.faults_of c.args.bank) in
    written_idle setting c.args.epochs.items c.args.epochs.items (HasWritten (g.B.Bank.given c.args.bank) c.args.backup c.args.line _) refl (omega arith)

pub returns-in-Step-clause-written : goal.returns-in-Step-clause-written
returns-in-Step-clause-written g c told =
    let setting = setting_of g.B.Bank.tells (g.B.Bank.given c.args.bank) (g.B.Bank.tape c.args.bank) (g.B.Bank.tape c.args.bank) c.args.backup (g.B.Bank.faults_of c.args.bank) (g.B.Bank.faults_of c.args.bank) in
    written_idle setting c.args.epochs.items c.args.epochs.items (HasWritten (g.B.Bank.given c.args.bank) c.args.backup c.args.line _) refl (omega arith)

pub returns-in-Wait-clause-written : goal.returns-in-Wait-clause-written
returns-in-Wait-clause-written g c told =
    let setting = setting_of g.B.Bank.tells (g.B.Bank.given c.args.bank) (g.B.Bank.tape c.args.bank) (g.B.Bank.tape c.args.bank) c.args.backup (g.B.Bank.faults_of c.args.bank) (g.B.Bank.faults_of c.args.bank) in
    written_idle setting c.args.epochs.items c.args.epochs.items (HasWritten (g.B.Bank.given c.args.bank) c.args.backup c.args.line _) refl (omega arith)

pub returns-in-Stop-clause-written : goal.returns-in-Stop-clause-written
returns-in-Stop-clause-written g c told =
    let setting = setting_of g.B.Bank.tells (g.B.Bank.given c.args.bank) (g.B.Bank.tape c.args.bank) (g.B.Bank.tape c.args.bank) c.args.backup (g.B.Bank.faults_of c.args.bank) (g.B.Bank.faults_of c.args.bank) in
    written_idle setting c.args.epochs.items c.args.epochs.items (HasWritten (g.B.Bank.given c.args.bank) c.args.backup c.args.line _) refl (omega arith)

pub returns-in-Halt-clause-written : goal.returns-in-Halt-clause-written
returns-in-Halt-clause-written g c told =
    let setting = setting_of g.B.Bank.tells (g.B.Bank.given c.args.bank) (g.B.Bank.tape c.args.bank) (g.B.Bank.tape c.args.bank) c.args.backup (g.B.Bank.faults_of c.args.bank) (g.B.Bank.faults_of c.args.bank) in
    written_idle setting c.args.epochs.items c.args.epochs.items (HasWritten (g.B.Bank.given c.args.bank) c.args.backup c.args.line _) refl (omega arith)

pub returns-in-Detail-clause-written : goal.returns-in-Detail-clause-written
returns-in-Detail-clause-written g c told =
    let setting = setting_of g.B.Bank.tells (g.B.Bank.given c.args.bank) (g.B.Bank.tape c.args.bank) (g.B.Bank.tape c.args.bank) c.args.backup (g.B.Bank.faults_of c.args.bank) (g.B.Bank.faults_of c.args.bank) in
    written_idle setting c.args.epochs.items c.args.epochs.items (HasWritten (g.B.Bank.given c.args.bank) c.args.backup c.args.line _) refl (omega arith)

pub returns-in-Mdstat-clause-written : goal.returns-in-Mdstat-clause-written
returns-in-Mdstat-clause-written g c told =
    let setting = setting_of g.B.Bank.tells (g.B.Bank.given c.args.bank) (g.B.Bank.tape c.args.bank) (g.B.Bank.tape c.args.bank) c.args.backup (g.B.Bank.faults_of c.args.bank) (g.B.Bank.faults_of c.args.bank) in
    written_idle setting c.args.epochs.items c.args.epochs.items (HasWritten (g.B.Bank.given c.args.bank) c.args.backup c.args.line _) refl (omega arith)

pub returns-in-Alerts-clause-written : goal.returns-in-Alerts-clause-written
returns-in-Alerts-clause-written g c told =
    let setting = setting_of g.B.Bank.tells (g.B.Bank.given c.args.bank) (g.B.Bank.tape c.args.bank) (g.B.Bank.tape c.args.bank) c.args.backup (g.B.Bank.faults_of c.args.bank) (g.B.Bank.faults_of c.args.bank) in
    written_idle setting c.args.epochs.items c.args.epochs.items (HasWritten (g.B.Bank.given c.args.bank) c.args.backup c.args.line _) refl (omega arith)
