use Rattle.std.proofs.Common.{ℕ, Option, map, string_bytes, length, inl, inr, refl, ap, subst, arith}
use Rattle.script_argv.specs.Words.{demo_in, backup_in}
use Rattle.run_scripts.specs.run_specs_Ended.{AreLegal, AreRight}
use Rattle.run_scripts.specs.run_specs_Making.{setting_of}
use Rattle.run_scripts.specs.run_specs_Histories.{histories_of}
use Rattle.run_scripts.specs.Complete.{IsComplete}
use Rattle.run_scripts.specs.Runs.{IsScriptPerformed, IsScriptBad, sunk_of}
use Rattle.run_scripts.proofs.NothingDone.{none-legal, none-right, none-kept, none-ended, none-lost, same-faults, before-lines, short-before}
use Rattle.run_scripts.proofs.Unfailed.{none-unfailed, none-complete, run-complete, some-refused, no-bad-line, well-ended}
use Rattle.run_scripts.proofs.Done.{unfailed-epochs}
use Rattle.run_scripts.proofs.run_session_Unmoved.{grows-same}
use Rattle.run_scripts.specs.history_monitor_Hooks.{wanted_by}
use Rattle.run_command.proofs.words.run.Goals as goal

pub returns-clause-performed : goal.returns-clause-performed
returns-clause-performed g c after =
    let source = g.S.Source.left c.args.script.now in
    let sunk = sunk_of g.K.Sink.tells (g.K.Sink.taken c.args.out.now) (g.K.Sink.taken c.run_script.new.out) c.run_script.result.shown in
    let performed = subst (λ (demo : Option ℕ). IsScriptPerformed (goal.G-post g (wanted_by c.args.hook)) demo g.S.Source.tells source (g.S.Source.left c.run_script.new.script) (setting_of g.B.Bank.tells (g.B.Bank.given c.args.bank) (g.B.Bank.tape c.args.bank) (g.B.Bank.tape c.run_script.result.bank) c.backup_of-backup.result (g.B.Bank.faults_of c.args.bank) (g.B.Bank.faults_of c.run_script.result.bank)) sunk c.run_script.result.status c.run_script.result.epochs.items c.run_script.result.lines.items) c.demo_of-demo.ensures.demo (c.run_script.ensures.performed after) in
    subst (λ (backup : Option ℕ). IsScriptPerformed (goal.G-post g (wanted_by c.args.hook)) (demo_in (map string_bytes c.args.words.now)) g.S.Source.tells source (g.S.Source.left c.run_script.new.script) (setting_of g.B.Bank.tells (g.B.Bank.given c.args.bank) (g.B.Bank.tape c.args.bank) (g.B.Bank.tape c.run_script.result.bank) backup (g.B.Bank.faults_of c.args.bank) (g.B.Bank.faults_of c.run_script.result.bank)) sunk c.run_script.result.status c.run_script.result.epochs.items c.run_script.result.lines.items) c.backup_of-backup.ensures.backup performed

pub returns-clause-right : goal.returns-clause-right
returns-clause-right g c =
    subst (λ (b : Option ℕ). g.B.Bank.tells → AreRight (g.B.Bank.given c.args.bank) (g.B.Bank.tape c.run_script.result.bank) b c.run_script.result.epochs.items) c.backup_of-backup.ensures.backup
    c.run_script.ensures.right

pub returns-clause-legal : goal.returns-clause-legal
returns-clause-legal g c =
    subst (λ (b : Option ℕ). g.B.Bank.tells → AreLegal (g.B.Bank.given c.args.bank) (g.B.Bank.tape c.run_script.result.bank) b c.run_script.result.epochs.items) c.backup_of-backup.ensures.backup
    c.run_script.ensures.legal

pub returns-in-Err-clause-legal : goal.returns-in-Err-clause-legal
returns-in-Err-clause-legal g c told = none-legal (g.B.Bank.given c.args.bank) (g.B.Bank.tape c.nothing_done.result.bank) (backup_in (map string_bytes c.args.words.now)) c.nothing_done.result.epochs.items c.nothing_done.ensures.epochs

pub returns-in-Err-clause-right : goal.returns-in-Err-clause-right
returns-in-Err-clause-right g c told = none-right (g.B.Bank.given c.args.bank) (g.B.Bank.tape c.nothing_done.result.bank) (backup_in (map string_bytes c.args.words.now)) c.nothing_done.result.epochs.items c.nothing_done.ensures.epochs

pub returns-in-Err-clause-kept : goal.returns-in-Err-clause-kept
returns-in-Err-clause-kept g c told = none-kept (g.B.Bank.given c.args.bank) (g.B.Bank.tape c.nothing_done.result.bank) (backup_in (map string_bytes c.args.words.now)) c.nothing_done.result.epochs.items c.nothing_done.ensures.epochs

pub returns-in-Err-clause-ended : goal.returns-in-Err-clause-ended
returns-in-Err-clause-ended g c told = none-ended (length (g.B.Bank.tape c.nothing_done.result.bank)) c.nothing_done.result.epochs.items c.nothing_done.ensures.epochs

pub returns-in-Err-clause-losses : goal.returns-in-Err-clause-losses
returns-in-Err-clause-losses g c =
    none-lost (setting_of g.B.Bank.tells (g.B.Bank.given c.args.bank) (g.B.Bank.tape c.args.bank) (g.B.Bank.tape c.nothing_done.result.bank) (backup_in (map string_bytes c.args.words.now)) (g.B.Bank.faults_of c.args.bank) (g.B.Bank.faults_of c.nothing_done.result.bank)) c.nothing_done.result.epochs.items c.nothing_done.ensures.epochs

pub returns-in-Err-clause-never_falls : goal.returns-in-Err-clause-never_falls
returns-in-Err-clause-never_falls g c s = same-faults (g.B.Bank.faults_of c.args.bank s) (g.B.Bank.faults_of c.nothing_done.result.bank s) (ap (λ b. g.B.Bank.faults_of b s) c.nothing_done.ensures.bank)

pub returns-in-Err-clause-grows : goal.returns-in-Err-clause-grows
returns-in-Err-clause-grows g c = grows-same (ap (λ b. g.B.Bank.tape b) c.nothing_done.ensures.bank)

pub returns-in-Err-clause-performed : goal.returns-in-Err-clause-performed
returns-in-Err-clause-performed g c after = short-before c.nothing_done.result.status c.nothing_done.ensures.status after

pub returns-in-Err-clause-bad_line : goal.returns-in-Err-clause-bad_line
returns-in-Err-clause-bad_line g c three = absurd (omega (arith, c.nothing_done.ensures.status, three))

pub returns-in-Err-clause-short : goal.returns-in-Err-clause-short
returns-in-Err-clause-short g c six = inr (record { lines_are = c.nothing_done.ensures.lines; epochs_are = c.nothing_done.ensures.epochs; taken = λ told. refl; shown = c.nothing_done.ensures.shown }, c.nothing_done.ensures.bank)

pub returns-in-Err-clause-nothing : goal.returns-in-Err-clause-nothing
returns-in-Err-clause-nothing g c before = record { lines_are = c.nothing_done.ensures.lines; epochs_are = c.nothing_done.ensures.epochs; taken = λ told. refl; shown = c.nothing_done.ensures.shown }

pub returns-in_default-clause-legal : goal.returns-in_default-clause-legal
returns-in_default-clause-legal g c told = none-legal (g.B.Bank.given c.args.bank) (g.B.Bank.tape c.nothing_done-in_default.result.bank) (backup_in (map string_bytes c.args.words.now)) c.nothing_done-in_default.result.epochs.items c.nothing_done-in_default.ensures.epochs

pub returns-in_default-clause-right : goal.returns-in_default-clause-right
returns-in_default-clause-right g c told = none-right (g.B.Bank.given c.args.bank) (g.B.Bank.tape c.nothing_done-in_default.result.bank) (backup_in (map string_bytes c.args.words.now)) c.nothing_done-in_default.result.epochs.items c.nothing_done-in_default.ensures.epochs

pub returns-in_default-clause-kept : goal.returns-in_default-clause-kept
returns-in_default-clause-kept g c told = none-kept (g.B.Bank.given c.args.bank) (g.B.Bank.tape c.nothing_done-in_default.result.bank) (backup_in (map string_bytes c.args.words.now)) c.nothing_done-in_default.result.epochs.items c.nothing_done-in_default.ensures.epochs

pub returns-in_default-clause-ended : goal.returns-in_default-clause-ended
returns-in_default-clause-ended g c told = none-ended (length (g.B.Bank.tape c.nothing_done-in_default.result.bank)) c.nothing_done-in_default.result.epochs.items c.nothing_done-in_default.ensures.epochs

pub returns-in_default-clause-losses : goal.returns-in_default-clause-losses
returns-in_default-clause-losses g c =
    none-lost (setting_of g.B.Bank.tells (g.B.Bank.given c.args.bank) (g.B.Bank.tape c.args.bank) (g.B.Bank.tape c.nothing_done-in_default.result.bank) (backup_in (map string_bytes c.args.words.now)) (g.B.Bank.faults_of c.args.bank) (g.B.Bank.faults_of c.nothing_done-in_default.result.bank)) c.nothing_done-in_default.result.epochs.items c.nothing_done-in_default.ensures.epochs

pub returns-in_default-clause-never_falls : goal.returns-in_default-clause-never_falls
returns-in_default-clause-never_falls g c s = same-faults (g.B.Bank.faults_of c.args.bank s) (g.B.Bank.faults_of c.nothing_done-in_default.result.bank s) (ap (λ b. g.B.Bank.faults_of b s) c.nothing_done-in_default.ensures.bank)

pub returns-in_default-clause-grows : goal.returns-in_default-clause-grows
returns-in_default-clause-grows g c = grows-same (ap (λ b. g.B.Bank.tape b) c.nothing_done-in_default.ensures.bank)

pub returns-in_default-clause-performed : goal.returns-in_default-clause-performed
returns-in_default-clause-performed g c after = before-lines c.nothing_done-in_default.result.status 2 c.nothing_done-in_default.ensures.status (omega arith) (omega arith) after

pub returns-in_default-clause-bad_line : goal.returns-in_default-clause-bad_line
returns-in_default-clause-bad_line g c three = absurd (omega (arith, c.nothing_done-in_default.ensures.status, three))

pub returns-in_default-clause-short : goal.returns-in_default-clause-short
returns-in_default-clause-short g c six = absurd (omega (arith, c.nothing_done-in_default.ensures.status, six))

pub returns-in_default-clause-nothing : goal.returns-in_default-clause-nothing
returns-in_default-clause-nothing g c before = record { lines_are = c.nothing_done-in_default.ensures.lines; epochs_are = c.nothing_done-in_default.ensures.epochs; taken = λ told. refl; shown = c.nothing_done-in_default.ensures.shown }

pub returns-clause-unfailed : goal.returns-clause-unfailed
returns-clause-unfailed g c none = unfailed-epochs (setting_of g.B.Bank.tells (g.B.Bank.given c.args.bank) (g.B.Bank.tape c.args.bank) (g.B.Bank.tape c.run_script.result.bank) c.backup_of-backup.result (g.B.Bank.faults_of c.args.bank) (g.B.Bank.faults_of c.run_script.result.bank)) c.run_script.result.epochs.items none c.run_script.ensures.losses

pub returns-in-Err-clause-unfailed : goal.returns-in-Err-clause-unfailed
returns-in-Err-clause-unfailed g c none = none-unfailed c.nothing_done.result.epochs.items c.nothing_done.ensures.epochs

pub returns-in_default-clause-unfailed : goal.returns-in_default-clause-unfailed
returns-in_default-clause-unfailed g c none = none-unfailed c.nothing_done-in_default.result.epochs.items c.nothing_done-in_default.ensures.epochs

pub returns-clause-complete : goal.returns-clause-complete
returns-clause-complete g c =
    subst (λ (b : Option ℕ). IsComplete (setting_of g.B.Bank.tells (g.B.Bank.given c.args.bank) (g.B.Bank.tape c.args.bank) (g.B.Bank.tape c.run_script.result.bank) b (g.B.Bank.faults_of c.args.bank) (g.B.Bank.faults_of c.run_script.result.bank)) c.run_script.result.epochs.items c.run_script.result.lines.items) c.backup_of-backup.ensures.backup
    (run-complete (setting_of g.B.Bank.tells (g.B.Bank.given c.args.bank) (g.B.Bank.tape c.args.bank) (g.B.Bank.tape c.run_script.result.bank) c.backup_of-backup.result (g.B.Bank.faults_of c.args.bank) (g.B.Bank.faults_of c.run_script.result.bank)) c.run_script.result.status c.run_script.result.epochs.items c.run_script.result.lines.items
    c.run_script.ensures.legal c.run_script.ensures.losses c.run_script.ensures.status c.run_script.ensures.performed c.run_script.ensures.short c.run_script.ensures.nothing)

pub returns-in-Err-clause-complete : goal.returns-in-Err-clause-complete
returns-in-Err-clause-complete g c = none-complete (setting_of g.B.Bank.tells (g.B.Bank.given c.args.bank) (g.B.Bank.tape c.args.bank) (g.B.Bank.tape c.nothing_done.result.bank) (backup_in (map string_bytes c.args.words.now)) (g.B.Bank.faults_of c.args.bank) (g.B.Bank.faults_of c.nothing_done.result.bank)) c.nothing_done.result.epochs.items c.nothing_done.result.lines.items c.nothing_done.ensures.epochs c.nothing_done.ensures.lines

pub returns-in_default-clause-complete : goal.returns-in_default-clause-complete
returns-in_default-clause-complete g c = none-complete (setting_of g.B.Bank.tells (g.B.Bank.given c.args.bank) (g.B.Bank.tape c.args.bank) (g.B.Bank.tape c.nothing_done-in_default.result.bank) (backup_in (map string_bytes c.args.words.now)) (g.B.Bank.faults_of c.args.bank) (g.B.Bank.faults_of c.nothing_done-in_default.result.bank)) c.nothing_done-in_default.result.epochs.items c.nothing_done-in_default.result.lines.items c.nothing_done-in_default.ensures.epochs c.nothing_done-in_default.ensures.lines

pub returns-clause-ends_well : goal.returns-clause-ends_well
returns-clause-ends_well g c commanded source sink = record {
  status_is = well-ended c.run_script.result.status c.run_script.ensures.status
      (λ two. absurd (let none = two in omega (arith, two, c.run_script.ensures.status)))
      (λ four. source (c.run_script.ensures.read_fault four))
      (λ five. sink (c.run_script.ensures.write_fault five));
  refused = λ one. let done = c.run_script.ensures.performed (inr (inl one)) in
      some-refused (histories_of c.run_script.result.epochs.items) done.asked c.run_script.result.lines.items (done.shown.refusals.1 one);
  script = λ told text read good three. no-bad-line (demo_in (map string_bytes c.args.words.now)) (g.S.Source.left c.args.script.now) (g.S.Source.left c.run_script.new.script) text c.run_script.result.bad_line told read good
      (subst (λ (demo : Option ℕ). IsScriptBad demo g.S.Source.tells (g.S.Source.left c.args.script.now) (g.S.Source.left c.run_script.new.script) c.run_script.result.bad_line) c.demo_of-demo.ensures.demo (c.run_script.ensures.bad_line three));
}

pub returns-in-Err-clause-ends_well : goal.returns-in-Err-clause-ends_well
returns-in-Err-clause-ends_well g c commanded source sink = record {
  status_is = inr (inr c.nothing_done.ensures.status);
  refused = λ one. absurd (omega (arith, one, c.nothing_done.ensures.status));
  script = λ told text read good three. absurd (omega (arith, three, c.nothing_done.ensures.status));
}
