use Rattle.std.proofs.Common.{[], length, sym, subst}
use Rattle.history_reopen_laws.specs.bank_Given.{Given, NeverFalls}
use Rattle.run_session.specs.run_specs_Ended.{AreLegal, AreRight}
use Rattle.run_session.specs.array_members_Moving.{Grows}
use Rattle.run_scripts.specs.Kept.{AreKept}
use Rattle.run_session.specs.run_specs_Making.{setting_of}
use Rattle.run_scripts.specs.Runs.{IsEnded}
use Rattle.run_session.specs.Sessions.{IsPerformed}
use Rattle.run_session.specs.run_specs_Histories.{histories_of}
use Rattle.run_session.specs.run_specs_States.{histories_in}
use Rattle.run_session.specs.run_specs_Written.{IsWritten}
use Rattle.run_scripts.proofs.Ends.{end_status, end_performed, end_losses, end_taken, end_shown}
use Rattle.run_session.specs.history_monitor_Hooks.{wanted_by}
use Rattle.run_session.specs.run_specs_Replies.{at_rest}
use Rattle.run_session.proofs.Alerted.{alerts_stay}
use Rattle.run_scripts.proofs.runs.run_lines.Goals as goal

pub returns-clause-status : goal.returns-clause-status
returns-clause-status g c =
    let did = c.perform-state.ensures in
    let ended = subst (λ (known : Given). IsEnded (setting_of g.B.Bank.tells known (g.B.Bank.tape c.end_run-bank.result.0) (g.B.Bank.tape c.end_run-bank.result.0) c.args.backup (g.B.Bank.faults_of c.end_run-bank.result.0) (g.B.Bank.faults_of c.end_run-bank.result.0)) c.perform-state.result.state c.end_run-bank.result.0 c.end_run-bank.result.1.items) c.perform-state.ensures.given c.end_run-bank.ensures.ended in
    let performed = subst (λ (b : g.row.B.Denot). IsPerformed (setting_of g.B.Bank.tells (g.B.Bank.given c.args.bank) (g.B.Bank.tape c.args.bank) (g.B.Bank.tape b) c.args.backup (g.B.Bank.faults_of c.args.bank) (g.B.Bank.faults_of b)) c.args.lines.now c.perform-state.result) (sym ended.same_bank) did.performed in
    let falls = subst (λ (b : g.row.B.Denot). NeverFalls (g.B.Bank.faults_of c.args.bank) (g.B.Bank.faults_of b)) (sym ended.same_bank) did.never_falls in
    end_status (g.B.Bank.tape c.args.bank) c.end_run-bank.result.1.items c.status_of.result falls performed ended c.status_of.ensures

pub returns-clause-performed : goal.returns-clause-performed
returns-clause-performed g c =
    let did = c.perform-state.ensures in
    let ended = subst (λ (known : Given). IsEnded (setting_of g.B.Bank.tells known (g.B.Bank.tape c.end_run-bank.result.0) (g.B.Bank.tape c.end_run-bank.result.0) c.args.backup (g.B.Bank.faults_of c.end_run-bank.result.0) (g.B.Bank.faults_of c.end_run-bank.result.0)) c.perform-state.result.state c.end_run-bank.result.0 c.end_run-bank.result.1.items) c.perform-state.ensures.given c.end_run-bank.ensures.ended in
    let performed = subst (λ (b : g.row.B.Denot). IsPerformed (setting_of g.B.Bank.tells (g.B.Bank.given c.args.bank) (g.B.Bank.tape c.args.bank) (g.B.Bank.tape b) c.args.backup (g.B.Bank.faults_of c.args.bank) (g.B.Bank.faults_of b)) c.args.lines.now c.perform-state.result) (sym ended.same_bank) did.performed in
    let falls = subst (λ (b : g.row.B.Denot). NeverFalls (g.B.Bank.faults_of c.args.bank) (g.B.Bank.faults_of b)) (sym ended.same_bank) did.never_falls in
    end_performed (g.B.Bank.tape c.args.bank) c.end_run-bank.result.1.items c.status_of.result falls performed ended c.status_of.ensures did.all
    (subst (λ (b : g.row.B.Denot). Grows g.B.Bank.tells (g.B.Bank.tape c.args.bank) (g.B.Bank.tape b)) (sym ended.same_bank) did.grows)
    (subst (λ (known : Given). g.B.Bank.tells → IsWritten (setting_of g.B.Bank.tells known (g.B.Bank.tape c.end_run-bank.result.0) (g.B.Bank.tape c.end_run-bank.result.0) c.args.backup (g.B.Bank.faults_of c.end_run-bank.result.0) (g.B.Bank.faults_of c.end_run-bank.result.0)) (histories_in c.perform-state.result.state) (histories_of c.end_run-bank.result.1.items) (λ slot. ⊥)) c.perform-state.ensures.given c.end_run-bank.ensures.written)
    c.end_run-bank.ensures.rising
    (subst (λ (known : Given). g.B.Bank.tells → AreLegal known (g.B.Bank.tape c.end_run-bank.result.0) c.args.backup c.end_run-bank.result.1.items) c.perform-state.ensures.given c.end_run-bank.ensures.legal)
    c.requires.lanes

pub returns-clause-alerts : goal.returns-clause-alerts
returns-clause-alerts g c =
    let did = c.perform-state.ensures in
    (alerts_stay (goal.G-post g (wanted_by c.args.hook.now)) _ (histories_in c.perform-state.result.state) (histories_of c.end_run-bank.result.1.items) (at_rest 0) [] (length c.perform-state.result.replies.items) c.args.lines.now c.perform-state.result.replies.items
    c.end_run-bank.ensures.ended.grown did.performed.replies did.alerts).0

pub returns-clause-taken : goal.returns-clause-taken
returns-clause-taken g c =
    let did = c.perform-state.ensures in
    let ended = subst (λ (known : Given). IsEnded (setting_of g.B.Bank.tells known (g.B.Bank.tape c.end_run-bank.result.0) (g.B.Bank.tape c.end_run-bank.result.0) c.args.backup (g.B.Bank.faults_of c.end_run-bank.result.0) (g.B.Bank.faults_of c.end_run-bank.result.0)) c.perform-state.result.state c.end_run-bank.result.0 c.end_run-bank.result.1.items) c.perform-state.ensures.given c.end_run-bank.ensures.ended in
    let performed = subst (λ (b : g.row.B.Denot). IsPerformed (setting_of g.B.Bank.tells (g.B.Bank.given c.args.bank) (g.B.Bank.tape c.args.bank) (g.B.Bank.tape b) c.args.backup (g.B.Bank.faults_of c.args.bank) (g.B.Bank.faults_of b)) c.args.lines.now c.perform-state.result) (sym ended.same_bank) did.performed in
    let falls = subst (λ (b : g.row.B.Denot). NeverFalls (g.B.Bank.faults_of c.args.bank) (g.B.Bank.faults_of b)) (sym ended.same_bank) did.never_falls in
    end_taken (g.B.Bank.tape c.args.bank) c.end_run-bank.result.1.items c.status_of.result falls performed ended c.status_of.ensures did.shown

pub returns-clause-shown : goal.returns-clause-shown
returns-clause-shown g c =
    let did = c.perform-state.ensures in
    let ended = subst (λ (known : Given). IsEnded (setting_of g.B.Bank.tells known (g.B.Bank.tape c.end_run-bank.result.0) (g.B.Bank.tape c.end_run-bank.result.0) c.args.backup (g.B.Bank.faults_of c.end_run-bank.result.0) (g.B.Bank.faults_of c.end_run-bank.result.0)) c.perform-state.result.state c.end_run-bank.result.0 c.end_run-bank.result.1.items) c.perform-state.ensures.given c.end_run-bank.ensures.ended in
    let performed = subst (λ (b : g.row.B.Denot). IsPerformed (setting_of g.B.Bank.tells (g.B.Bank.given c.args.bank) (g.B.Bank.tape c.args.bank) (g.B.Bank.tape b) c.args.backup (g.B.Bank.faults_of c.args.bank) (g.B.Bank.faults_of b)) c.args.lines.now c.perform-state.result) (sym ended.same_bank) did.performed in
    let falls = subst (λ (b : g.row.B.Denot). NeverFalls (g.B.Bank.faults_of c.args.bank) (g.B.Bank.faults_of b)) (sym ended.same_bank) did.never_falls in
    end_shown (g.B.Bank.tape c.args.bank) c.end_run-bank.result.1.items c.status_of.result falls performed ended c.status_of.ensures did.shown

pub returns-clause-losses : goal.returns-clause-losses
returns-clause-losses g c =
    let did = c.perform-state.ensures in
    let ended = subst (λ (known : Given). IsEnded (setting_of g.B.Bank.tells known (g.B.Bank.tape c.end_run-bank.result.0) (g.B.Bank.tape c.end_run-bank.result.0) c.args.backup (g.B.Bank.faults_of c.end_run-bank.result.0) (g.B.Bank.faults_of c.end_run-bank.result.0)) c.perform-state.result.state c.end_run-bank.result.0 c.end_run-bank.result.1.items) c.perform-state.ensures.given c.end_run-bank.ensures.ended in
    let performed = subst (λ (b : g.row.B.Denot). IsPerformed (setting_of g.B.Bank.tells (g.B.Bank.given c.args.bank) (g.B.Bank.tape c.args.bank) (g.B.Bank.tape b) c.args.backup (g.B.Bank.faults_of c.args.bank) (g.B.Bank.faults_of b)) c.args.lines.now c.perform-state.result) (sym ended.same_bank) did.performed in
    let falls = subst (λ (b : g.row.B.Denot). NeverFalls (g.B.Bank.faults_of c.args.bank) (g.B.Bank.faults_of b)) (sym ended.same_bank) did.never_falls in
    end_losses (g.B.Bank.tape c.args.bank) c.end_run-bank.result.1.items c.status_of.result falls performed ended c.status_of.ensures

pub returns-clause-legal : goal.returns-clause-legal
returns-clause-legal g c =
    subst (λ (known : Given). g.B.Bank.tells → AreLegal known (g.B.Bank.tape c.end_run-bank.result.0) c.args.backup c.end_run-bank.result.1.items) c.perform-state.ensures.given c.end_run-bank.ensures.legal

pub returns-clause-ended : goal.returns-clause-ended
returns-clause-ended g c = c.end_run-bank.ensures.marks

pub returns-clause-right : goal.returns-clause-right
returns-clause-right g c =
    subst (λ (known : Given). g.B.Bank.tells → AreRight known (g.B.Bank.tape c.end_run-bank.result.0) c.args.backup c.end_run-bank.result.1.items) c.perform-state.ensures.given c.end_run-bank.ensures.right

pub returns-clause-kept : goal.returns-clause-kept
returns-clause-kept g c =
    subst (λ (known : Given). g.B.Bank.tells → AreKept known (g.B.Bank.tape c.end_run-bank.result.0) c.args.backup c.end_run-bank.result.1.items) c.perform-state.ensures.given c.end_run-bank.ensures.kept

pub returns-clause-grows : goal.returns-clause-grows
returns-clause-grows g c =
    subst (λ (b : g.row.B.Denot). Grows g.B.Bank.tells (g.B.Bank.tape c.args.bank) (g.B.Bank.tape b)) (sym c.end_run-bank.ensures.ended.same_bank) c.perform-state.ensures.grows
