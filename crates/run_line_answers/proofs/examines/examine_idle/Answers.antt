use Rattle.std.proofs.Common.{length, refl, sym, ap, subst, arith, List}
use Rattle.run_requests.specs.bank_the_Operation.{Operation}
use Rattle.run_requests.specs.raid_types_the_Refusal_TheVariants.{NoSuchSlot}
use Rattle.run_requests.specs.script_the_Line_TheVariants.{Examine}
use Rattle.run_requests.specs.run_specs_Making.{setting_of}
use Rattle.run_requests.specs.run_specs_States.{IsTurn}
use Rattle.run_requests.specs.run_specs_Written.{HasWritten}
use Rattle.run_requests.specs.run_specs_the_Answered.{Answered}
use Rattle.run_requests.specs.run_specs_the_State_TheVariants.{Idle as IsIdle}
use Rattle.run_line_answers.proofs.Examined.{looked_at, failed_at, unexamined_idle, examined_idle}
use Rattle.run_requests.proofs.Writing.{written_idle}
use Rattle.run_line_answers.proofs.examines.examine_idle.Goals as goal

pub returns-then-slot-slots-clause-answered : goal.returns-then-slot-slots-clause-answered
returns-then-slot-slots-clause-answered g c =
    let setting = setting_of g.B.Bank.tells (g.B.Bank.given c.args.bank) (g.B.Bank.tape c.args.bank) (g.B.Bank.tape c.args.bank) c.args.backup (g.B.Bank.faults_of c.args.bank) (g.B.Bank.faults_of c.args.bank) in
    subst (λ (what : Answered). IsTurn setting (IsIdle c.args.bank c.args.epochs) (IsIdle c.args.bank c.args.epochs) (Examine c.args.slot) what) (sym c.absent.ensures)
    (unexamined_idle setting c.args.bank c.args.bank c.args.epochs c.requires.own (λ t. omega arith) c.args.slot (NoSuchSlot c.args.slot) (refl, omega (arith, c.slots.ensures, c.if-slot-slots.true)))

pub returns-then-slot-slots-clause-written : goal.returns-then-slot-slots-clause-written
returns-then-slot-slots-clause-written g c told =
    let setting = setting_of g.B.Bank.tells (g.B.Bank.given c.args.bank) (g.B.Bank.tape c.args.bank) (g.B.Bank.tape c.args.bank) c.args.backup (g.B.Bank.faults_of c.args.bank) (g.B.Bank.faults_of c.args.bank) in
    written_idle setting c.args.epochs.items c.args.epochs.items (HasWritten (g.B.Bank.given c.args.bank) c.args.backup (Examine c.args.slot) _) refl (omega arith)

pub returns-clause-answered : goal.returns-clause-answered
returns-clause-answered g c =
    let new = c.read_superblock-found.new.bank in
    let did = c.read_superblock-found.ensures in
    let setting = setting_of g.B.Bank.tells (g.B.Bank.given c.args.bank) (g.B.Bank.tape c.args.bank) (g.B.Bank.tape new) c.args.backup (g.B.Bank.faults_of c.args.bank) (g.B.Bank.faults_of new) in
    subst (λ (what : Answered). IsTurn setting (IsIdle c.args.bank c.args.epochs) (IsIdle new c.args.epochs) (Examine c.args.slot) what) (sym c.told.ensures)
    (examined_idle setting c.args.bank new c.args.epochs c.requires.own (λ t. omega (arith, ap (λ (l : List Operation). length l) (did.tape t))) c.args.slot c.read_superblock-found.result
    (looked_at setting (g.B.Bank.tape c.args.bank) c.args.slot c.read_superblock-found.result (omega (arith, c.slots.ensures, c.if-slot-slots.false)) did.tape did.found)
    (failed_at setting.before setting.now c.args.slot c.read_superblock-found.result did.cause.failed))

pub returns-clause-written : goal.returns-clause-written
returns-clause-written g c told =
    let new = c.read_superblock-found.new.bank in
    let did = c.read_superblock-found.ensures in
    let setting = setting_of g.B.Bank.tells (g.B.Bank.given c.args.bank) (g.B.Bank.tape c.args.bank) (g.B.Bank.tape new) c.args.backup (g.B.Bank.faults_of c.args.bank) (g.B.Bank.faults_of new) in
    written_idle setting c.args.epochs.items c.args.epochs.items (HasWritten (g.B.Bank.given c.args.bank) c.args.backup (Examine c.args.slot) _) refl (omega (arith, ap (λ (l : List Operation). length l) (did.tape told)))
