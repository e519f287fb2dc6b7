use Rattle.std.proofs.Common.{length, inr, refl, ap, arith}
use Rattle.run_session.specs.run_specs_Making.{setting_of}
use Rattle.run_scripts.proofs.NothingDone.{none-legal, none-right, none-kept, none-ended, none-lost, same-faults, before-lines, short-before}
use Rattle.run_session.proofs.Unmoved.{grows-same}
use Rattle.run_scripts.proofs.runs.run_script.Goals as goal

pub returns-in-Err-Failed-clause-legal : goal.returns-in-Err-Failed-clause-legal
returns-in-Err-Failed-clause-legal g c told = none-legal (g.B.Bank.given c.args.bank) (g.B.Bank.tape c.nothing_done.result.bank) c.args.backup c.nothing_done.result.epochs.items c.nothing_done.ensures.epochs

pub returns-in-Err-Failed-clause-right : goal.returns-in-Err-Failed-clause-right
returns-in-Err-Failed-clause-right g c told = none-right (g.B.Bank.given c.args.bank) (g.B.Bank.tape c.nothing_done.result.bank) c.args.backup c.nothing_done.result.epochs.items c.nothing_done.ensures.epochs

pub returns-in-Err-Failed-clause-kept : goal.returns-in-Err-Failed-clause-kept
returns-in-Err-Failed-clause-kept g c told = none-kept (g.B.Bank.given c.args.bank) (g.B.Bank.tape c.nothing_done.result.bank) c.args.backup c.nothing_done.result.epochs.items c.nothing_done.ensures.epochs

pub returns-in-Err-Failed-clause-ended : goal.returns-in-Err-Failed-clause-ended
returns-in-Err-Failed-clause-ended g c told = none-ended (length (g.B.Bank.tape c.nothing_done.result.bank)) c.nothing_done.result.epochs.items c.nothing_done.ensures.epochs

pub returns-in-Err-Failed-clause-losses : goal.returns-in-Err-Failed-clause-losses
returns-in-Err-Failed-clause-losses g c =
    none-lost (setting_of g.B.Bank.tells (g.B.Bank.given c.args.bank) (g.B.Bank.tape c.args.bank) (g.B.Bank.tape c.nothing_done.result.bank) c.args.backup (g.B.Bank.faults_of c.args.bank) (g.B.Bank.faults_of c.nothing_done.result.bank)) c.nothing_done.result.epochs.items c.nothing_done.ensures.epochs

pub returns-in-Err-Failed-clause-never_falls : goal.returns-in-Err-Failed-clause-never_falls
returns-in-Err-Failed-clause-never_falls g c s = same-faults (g.B.Bank.faults_of c.args.bank s) (g.B.Bank.faults_of c.nothing_done.result.bank s) (ap (λ b. g.B.Bank.faults_of b s) c.nothing_done.ensures.bank)

pub returns-in-Err-Failed-clause-grows : goal.returns-in-Err-Failed-clause-grows
returns-in-Err-Failed-clause-grows g c = grows-same (ap (λ b. g.B.Bank.tape b) c.nothing_done.ensures.bank)

pub returns-in-Err-Failed-clause-performed : goal.returns-in-Err-Failed-clause-performed
returns-in-Err-Failed-clause-performed g c after = before-lines c.nothing_done.result.status 4 c.nothing_done.ensures.status (omega arith) (omega arith) after

pub returns-in-Err-Failed-clause-bad_line : goal.returns-in-Err-Failed-clause-bad_line
returns-in-Err-Failed-clause-bad_line g c three = absurd (omega (arith, c.nothing_done.ensures.status, three))

pub returns-in-Err-Failed-clause-short : goal.returns-in-Err-Failed-clause-short
returns-in-Err-Failed-clause-short g c six = absurd (omega (arith, c.nothing_done.ensures.status, six))

pub returns-in-Err-Failed-clause-nothing : goal.returns-in-Err-Failed-clause-nothing
returns-in-Err-Failed-clause-nothing g c before = record { lines_are = c.nothing_done.ensures.lines; epochs_are = c.nothing_done.ensures.epochs; taken = λ told. refl; shown = c.nothing_done.ensures.shown }

pub returns-in-Err-NoMemory-clause-legal : goal.returns-in-Err-NoMemory-clause-legal
returns-in-Err-NoMemory-clause-legal g c told = none-legal (g.B.Bank.given c.args.bank) (g.B.Bank.tape c.nothing_done-in-Err-NoMemory.result.bank) c.args.backup c.nothing_done-in-Err-NoMemory.result.epochs.items c.nothing_done-in-Err-NoMemory.ensures.epochs

pub returns-in-Err-NoMemory-clause-right : goal.returns-in-Err-NoMemory-clause-right
returns-in-Err-NoMemory-clause-right g c told = none-right (g.B.Bank.given c.args.bank) (g.B.Bank.tape c.nothing_done-in-Err-NoMemory.result.bank) c.args.backup c.nothing_done-in-Err-NoMemory.result.epochs.items c.nothing_done-in-Err-NoMemory.ensures.epochs

pub returns-in-Err-NoMemory-clause-kept : goal.returns-in-Err-NoMemory-clause-kept
returns-in-Err-NoMemory-clause-kept g c told = none-kept (g.B.Bank.given c.args.bank) (g.B.Bank.tape c.nothing_done-in-Err-NoMemory.result.bank) c.args.backup c.nothing_done-in-Err-NoMemory.result.epochs.items c.nothing_done-in-Err-NoMemory.ensures.epochs

pub returns-in-Err-NoMemory-clause-ended : goal.returns-in-Err-NoMemory-clause-ended
returns-in-Err-NoMemory-clause-ended g c told = none-ended (length (g.B.Bank.tape c.nothing_done-in-Err-NoMemory.result.bank)) c.nothing_done-in-Err-NoMemory.result.epochs.items c.nothing_done-in-Err-NoMemory.ensures.epochs

pub returns-in-Err-NoMemory-clause-losses : goal.returns-in-Err-NoMemory-clause-losses
returns-in-Err-NoMemory-clause-losses g c =
    none-lost (setting_of g.B.Bank.tells (g.B.Bank.given c.args.bank) (g.B.Bank.tape c.args.bank) (g.B.Bank.tape c.nothing_done-in-Err-NoMemory.result.bank) c.args.backup (g.B.Bank.faults_of c.args.bank) (g.B.Bank.faults_of c.nothing_done-in-Err-NoMemory.result.bank)) c.nothing_done-in-Err-NoMemory.result.epochs.items c.nothing_done-in-Err-NoMemory.ensures.epochs

pub returns-in-Err-NoMemory-clause-never_falls : goal.returns-in-Err-NoMemory-clause-never_falls
returns-in-Err-NoMemory-clause-never_falls g c s = same-faults (g.B.Bank.faults_of c.args.bank s) (g.B.Bank.faults_of c.nothing_done-in-Err-NoMemory.result.bank s) (ap (λ b. g.B.Bank.faults_of b s) c.nothing_done-in-Err-NoMemory.ensures.bank)

pub returns-in-Err-NoMemory-clause-grows : goal.returns-in-Err-NoMemory-clause-grows
returns-in-Err-NoMemory-clause-grows g c = grows-same (ap (λ b. g.B.Bank.tape b) c.nothing_done-in-Err-NoMemory.ensures.bank)

pub returns-in-Err-NoMemory-clause-performed : goal.returns-in-Err-NoMemory-clause-performed
returns-in-Err-NoMemory-clause-performed g c after = short-before c.nothing_done-in-Err-NoMemory.result.status c.nothing_done-in-Err-NoMemory.ensures.status after

pub returns-in-Err-NoMemory-clause-bad_line : goal.returns-in-Err-NoMemory-clause-bad_line
returns-in-Err-NoMemory-clause-bad_line g c three = absurd (omega (arith, c.nothing_done-in-Err-NoMemory.ensures.status, three))

pub returns-in-Err-NoMemory-clause-short : goal.returns-in-Err-NoMemory-clause-short
returns-in-Err-NoMemory-clause-short g c six = inr (record { lines_are = c.nothing_done-in-Err-NoMemory.ensures.lines; epochs_are = c.nothing_done-in-Err-NoMemory.ensures.epochs; taken = λ told. refl; shown = c.nothing_done-in-Err-NoMemory.ensures.shown }, c.nothing_done-in-Err-NoMemory.ensures.bank)

pub returns-in-Err-NoMemory-clause-nothing : goal.returns-in-Err-NoMemory-clause-nothing
returns-in-Err-NoMemory-clause-nothing g c before = record { lines_are = c.nothing_done-in-Err-NoMemory.ensures.lines; epochs_are = c.nothing_done-in-Err-NoMemory.ensures.epochs; taken = λ told. refl; shown = c.nothing_done-in-Err-NoMemory.ensures.shown }

pub returns-in-Err-BadLine-clause-legal : goal.returns-in-Err-BadLine-clause-legal
returns-in-Err-BadLine-clause-legal g c told = none-legal (g.B.Bank.given c.args.bank) (g.B.Bank.tape c.nothing_done-in-Err-BadLine.result.bank) c.args.backup c.nothing_done-in-Err-BadLine.result.epochs.items c.nothing_done-in-Err-BadLine.ensures.epochs

pub returns-in-Err-BadLine-clause-right : goal.returns-in-Err-BadLine-clause-right
returns-in-Err-BadLine-clause-right g c told = none-right (g.B.Bank.given c.args.bank) (g.B.Bank.tape c.nothing_done-in-Err-BadLine.result.bank) c.args.backup c.nothing_done-in-Err-BadLine.result.epochs.items c.nothing_done-in-Err-BadLine.ensures.epochs

pub returns-in-Err-BadLine-clause-kept : goal.returns-in-Err-BadLine-clause-kept
returns-in-Err-BadLine-clause-kept g c told = none-kept (g.B.Bank.given c.args.bank) (g.B.Bank.tape c.nothing_done-in-Err-BadLine.result.bank) c.args.backup c.nothing_done-in-Err-BadLine.result.epochs.items c.nothing_done-in-Err-BadLine.ensures.epochs

pub returns-in-Err-BadLine-clause-ended : goal.returns-in-Err-BadLine-clause-ended
returns-in-Err-BadLine-clause-ended g c told = none-ended (length (g.B.Bank.tape c.nothing_done-in-Err-BadLine.result.bank)) c.nothing_done-in-Err-BadLine.result.epochs.items c.nothing_done-in-Err-BadLine.ensures.epochs

pub returns-in-Err-BadLine-clause-losses : goal.returns-in-Err-BadLine-clause-losses
returns-in-Err-BadLine-clause-losses g c =
    none-lost (setting_of g.B.Bank.tells (g.B.Bank.given c.args.bank) (g.B.Bank.tape c.args.bank) (g.B.Bank.tape c.nothing_done-in-Err-BadLine.result.bank) c.args.backup (g.B.Bank.faults_of c.args.bank) (g.B.Bank.faults_of c.nothing_done-in-Err-BadLine.result.bank)) c.nothing_done-in-Err-BadLine.result.epochs.items c.nothing_done-in-Err-BadLine.ensures.epochs

pub returns-in-Err-BadLine-clause-never_falls : goal.returns-in-Err-BadLine-clause-never_falls
returns-in-Err-BadLine-clause-never_falls g c s = same-faults (g.B.Bank.faults_of c.args.bank s) (g.B.Bank.faults_of c.nothing_done-in-Err-BadLine.result.bank s) (ap (λ b. g.B.Bank.faults_of b s) c.nothing_done-in-Err-BadLine.ensures.bank)

pub returns-in-Err-BadLine-clause-grows : goal.returns-in-Err-BadLine-clause-grows
returns-in-Err-BadLine-clause-grows g c = grows-same (ap (λ b. g.B.Bank.tape b) c.nothing_done-in-Err-BadLine.ensures.bank)

pub returns-in-Err-BadLine-clause-performed : goal.returns-in-Err-BadLine-clause-performed
returns-in-Err-BadLine-clause-performed g c after = before-lines c.nothing_done-in-Err-BadLine.result.status 3 c.nothing_done-in-Err-BadLine.ensures.status (omega arith) (omega arith) after

pub returns-in-Err-BadLine-clause-short : goal.returns-in-Err-BadLine-clause-short
returns-in-Err-BadLine-clause-short g c six = absurd (omega (arith, c.nothing_done-in-Err-BadLine.ensures.status, six))

pub returns-in-Err-BadLine-clause-nothing : goal.returns-in-Err-BadLine-clause-nothing
returns-in-Err-BadLine-clause-nothing g c before = record { lines_are = c.nothing_done-in-Err-BadLine.ensures.lines; epochs_are = c.nothing_done-in-Err-BadLine.ensures.epochs; taken = λ told. refl; shown = c.nothing_done-in-Err-BadLine.ensures.shown }

pub returns-clause-legal : goal.returns-clause-legal
returns-clause-legal g c told = none-legal (g.B.Bank.given c.args.bank) (g.B.Bank.tape c.nothing_done-in-Err-NoMemory-read_script_with_blocks.result.bank) c.args.backup c.nothing_done-in-Err-NoMemory-read_script_with_blocks.result.epochs.items c.nothing_done-in-Err-NoMemory-read_script_with_blocks.ensures.epochs

pub returns-clause-right : goal.returns-clause-right
returns-clause-right g c told = none-right (g.B.Bank.given c.args.bank) (g.B.Bank.tape c.nothing_done-in-Err-NoMemory-read_script_with_blocks.result.bank) c.args.backup c.nothing_done-in-Err-NoMemory-read_script_with_blocks.result.epochs.items c.nothing_done-in-Err-NoMemory-read_script_with_blocks.ensures.epochs

pub returns-clause-kept : goal.returns-clause-kept
returns-clause-kept g c told = none-kept (g.B.Bank.given c.args.bank) (g.B.Bank.tape c.nothing_done-in-Err-NoMemory-read_script_with_blocks.result.bank) c.args.backup c.nothing_done-in-Err-NoMemory-read_script_with_blocks.result.epochs.items c.nothing_done-in-Err-NoMemory-read_script_with_blocks.ensures.epochs

pub returns-clause-ended : goal.returns-clause-ended
returns-clause-ended g c told = none-ended (length (g.B.Bank.tape c.nothing_done-in-Err-NoMemory-read_script_with_blocks.result.bank)) c.nothing_done-in-Err-NoMemory-read_script_with_blocks.result.epochs.items c.nothing_done-in-Err-NoMemory-read_script_with_blocks.ensures.epochs

pub returns-clause-losses : goal.returns-clause-losses
returns-clause-losses g c =
    none-lost (setting_of g.B.Bank.tells (g.B.Bank.given c.args.bank) (g.B.Bank.tape c.args.bank) (g.B.Bank.tape c.nothing_done-in-Err-NoMemory-read_script_with_blocks.result.bank) c.args.backup (g.B.Bank.faults_of c.args.bank) (g.B.Bank.faults_of c.nothing_done-in-Err-NoMemory-read_script_with_blocks.result.bank)) c.nothing_done-in-Err-NoMemory-read_script_with_blocks.result.epochs.items c.nothing_done-in-Err-NoMemory-read_script_with_blocks.ensures.epochs

pub returns-clause-never_falls : goal.returns-clause-never_falls
returns-clause-never_falls g c s = same-faults (g.B.Bank.faults_of c.args.bank s) (g.B.Bank.faults_of c.nothing_done-in-Err-NoMemory-read_script_with_blocks.result.bank s) (ap (λ b. g.B.Bank.faults_of b s) c.nothing_done-in-Err-NoMemory-read_script_with_blocks.ensures.bank)

pub returns-clause-grows : goal.returns-clause-grows
returns-clause-grows g c = grows-same (ap (λ b. g.B.Bank.tape b) c.nothing_done-in-Err-NoMemory-read_script_with_blocks.ensures.bank)

pub returns-clause-performed : goal.returns-clause-performed
returns-clause-performed g c after = short-before c.nothing_done-in-Err-NoMemory-read_script_with_blocks.result.status c.nothing_done-in-Err-NoMemory-read_script_with_blocks.ensures.status after

pub returns-clause-bad_line : goal.returns-clause-bad_line
returns-clause-bad_line g c three = absurd (omega (arith, c.nothing_done-in-Err-NoMemory-read_script_with_blocks.ensures.status, three))

pub returns-clause-short : goal.returns-clause-short
returns-clause-short g c six = inr (record { lines_are = c.nothing_done-in-Err-NoMemory-read_script_with_blocks.ensures.lines; epochs_are = c.nothing_done-in-Err-NoMemory-read_script_with_blocks.ensures.epochs; taken = λ told. refl; shown = c.nothing_done-in-Err-NoMemory-read_script_with_blocks.ensures.shown }, c.nothing_done-in-Err-NoMemory-read_script_with_blocks.ensures.bank)

pub returns-clause-nothing : goal.returns-clause-nothing
returns-clause-nothing g c before = record { lines_are = c.nothing_done-in-Err-NoMemory-read_script_with_blocks.ensures.lines; epochs_are = c.nothing_done-in-Err-NoMemory-read_script_with_blocks.ensures.epochs; taken = λ told. refl; shown = c.nothing_done-in-Err-NoMemory-read_script_with_blocks.ensures.shown }
