use Rattle.std.proofs.Common.{ℕ, List, length, sym, subst}
use Rattle.run_scripts.specs.Runs.{AreEndedAt}
use Rattle.run_session.specs.run_specs_States.{histories_in, bank_in}
use Rattle.run_scripts.proofs.Marks.{all_right, ended_to, ended_kept, former_kept}
use Rattle.run_scripts.proofs.Reopening.{all_kept}
use Rattle.run_session.specs.run_specs_Histories.{History}
use Rattle.run_session.specs.run_specs_Making.{setting_of}
use Rattle.run_session.specs.run_specs_Written.{IsWritten}
use Rattle.run_scripts.proofs.runs.end_run.Goals as goal

pub returns-clause-ended : goal.returns-clause-ended
returns-clause-ended g c = ended_kept c.halt-bank.result.1.items c.end_epochs.new.epochs.items c.end_epochs.ensures.same c.halt-bank.ensures.ended

pub returns-clause-legal : goal.returns-clause-legal
returns-clause-legal g c told =
    let tape = g.B.Bank.tape c.halt-bank.result.0 in
    (former_kept (g.B.Bank.given (bank_in c.args.state)) tape c.args.backup (length tape) c.halt-bank.result.1.items c.end_epochs.new.epochs.items c.end_epochs.ensures.same (c.halt-bank.ensures.former told)).legal

pub returns-clause-right : goal.returns-clause-right
returns-clause-right g c told =
    let tape = g.B.Bank.tape c.halt-bank.result.0 in
    let epochs = c.end_epochs.new.epochs.items in
    all_right (g.B.Bank.given (bank_in c.args.state)) tape c.args.backup epochs
    (former_kept (g.B.Bank.given (bank_in c.args.state)) tape c.args.backup (length tape) c.halt-bank.result.1.items epochs c.end_epochs.ensures.same (c.halt-bank.ensures.former told))
    (ended_to (length tape) epochs (subst (λ (n : ℕ). AreEndedAt n epochs) (c.ops-ops.ensures.count told) c.end_epochs.ensures.ended))

pub returns-clause-kept : goal.returns-clause-kept
returns-clause-kept g c told =
    let tape = g.B.Bank.tape c.halt-bank.result.0 in
    let epochs = c.end_epochs.new.epochs.items in
    all_kept (g.B.Bank.given (bank_in c.args.state)) tape c.args.backup epochs
    (former_kept (g.B.Bank.given (bank_in c.args.state)) tape c.args.backup (length tape) c.halt-bank.result.1.items epochs c.end_epochs.ensures.same (c.halt-bank.ensures.former told))

pub returns-clause-marks : goal.returns-clause-marks
returns-clause-marks g c told = subst (λ (n : ℕ). AreEndedAt n c.end_epochs.new.epochs.items) (c.ops-ops.ensures.count told) c.end_epochs.ensures.ended

pub returns-clause-written : goal.returns-clause-written
returns-clause-written g c told =
    let bank = c.halt-bank.result.0 in
    subst (λ (l : List History). IsWritten (setting_of g.B.Bank.tells (g.B.Bank.given (bank_in c.args.state)) (g.B.Bank.tape bank) (g.B.Bank.tape bank) c.args.backup (g.B.Bank.faults_of bank) (g.B.Bank.faults_of bank)) (histories_in c.args.state) l (λ slot. ⊥)) (sym c.end_epochs.ensures.same)
    (c.halt-bank.ensures.written told)

pub returns-clause-rising : goal.returns-clause-rising
returns-clause-rising g c told =
    let tape = g.B.Bank.tape c.halt-bank.result.0 in
    (former_kept (g.B.Bank.given (bank_in c.args.state)) tape c.args.backup (length tape) c.halt-bank.result.1.items c.end_epochs.new.epochs.items c.end_epochs.ensures.same (c.halt-bank.ensures.former told)).rising
