use Rattle.std.proofs.Common.{length, refl, sym, ap, subst, arith, List}
use Rattle.run_requests.specs.bank_the_Operation.{Operation}
use Rattle.run_requests.specs.raid_types_the_Refusal_TheVariants.{NoSuchSlot}
use Rattle.run_requests.specs.array_specs_Parts.{RunningParts}
use Rattle.run_requests.specs.script_the_Line_TheVariants.{Examine}
use Rattle.run_requests.specs.run_specs_Examining.{told_of}
use Rattle.run_requests.specs.run_specs_Making.{setting_of}
use Rattle.run_requests.specs.run_specs_States.{IsTurn, histories_in}
use Rattle.run_requests.specs.run_specs_Written.{IsWritten, HasWritten}
use Rattle.run_requests.specs.run_specs_the_Answered.{Answered}
use Rattle.run_requests.specs.run_specs_the_State_TheVariants.{Running as IsRunning}
use Rattle.run_line_answers.proofs.Examined.{looked_at, failed_at, unexamined_running, examined_running}
use Rattle.run_requests.proofs.Writing.{written-nothing}
use Rattle.run_line_answers.proofs.examines.examine_running.Goals as goal
use Rattle.run_requests.proofs.array_members_MovedLaws.{grows-none}

pub returns-then-slot-slots-clause-answered : goal.returns-then-slot-slots-clause-answered
returns-then-slot-slots-clause-answered g c =
    let array = c.args.array in
    let setting = setting_of g.B.Bank.tells (g.B.Bank.given array.parts.bank) (g.B.Bank.tape array.parts.bank) (g.B.Bank.tape array.parts.bank) c.args.backup (g.B.Bank.faults_of array.parts.bank) (g.B.Bank.faults_of array.parts.bank) in
    subst (λ (what : Answered). IsTurn setting (IsRunning array c.args.epochs) (IsRunning array c.args.epochs) (Examine c.args.slot) what) (sym c.absent.ensures)
    (unexamined_running setting array c.args.epochs c.requires.own (λ t. omega arith) c.args.slot (NoSuchSlot c.args.slot) (refl, omega (arith, c.slots.ensures, c.if-slot-slots.true)))

pub returns-then-slot-slots-clause-written : goal.returns-then-slot-slots-clause-written
returns-then-slot-slots-clause-written g c told =
    let array = c.args.array in
    let setting = setting_of g.B.Bank.tells (g.B.Bank.given array.parts.bank) (g.B.Bank.tape array.parts.bank) (g.B.Bank.tape array.parts.bank) c.args.backup (g.B.Bank.faults_of array.parts.bank) (g.B.Bank.faults_of array.parts.bank) in
    written-nothing setting (histories_in (IsRunning array c.args.epochs)) (HasWritten (g.B.Bank.given array.parts.bank) c.args.backup (Examine c.args.slot) _) (omega arith)

pub returns-clause-answered : goal.returns-clause-answered
returns-clause-answered g c =
    let array = c.args.array in
    let new = c.examine-found.new.array in
    let did = c.examine-found.ensures in
    let setting = setting_of g.B.Bank.tells (g.B.Bank.given array.parts.bank) (g.B.Bank.tape array.parts.bank) (g.B.Bank.tape new.parts.bank) c.args.backup (g.B.Bank.faults_of array.parts.bank) (g.B.Bank.faults_of new.parts.bank) in
    subst (λ (what : Answered). IsTurn setting (IsRunning array c.args.epochs) (IsRunning new c.args.epochs) (Examine c.args.slot) what) (sym c.told.ensures)
    (subst (λ (a : RunningParts g.row.B.Denot). IsTurn setting (IsRunning array c.args.epochs) (IsRunning a c.args.epochs) (Examine c.args.slot) (told_of c.args.slot c.examine-found.result)) (sym did.else_same)
    (examined_running setting array c.args.epochs c.requires.own (λ t. omega (arith, ap (λ (l : List Operation). length l) (did.tape t))) c.args.slot new.parts.bank c.examine-found.result
    (looked_at setting (g.B.Bank.tape array.parts.bank) c.args.slot c.examine-found.result (omega (arith, c.slots.ensures, c.if-slot-slots.false)) did.tape did.found)
    (failed_at setting.before setting.now c.args.slot c.examine-found.result did.cause.failed)))

pub returns-clause-written : goal.returns-clause-written
returns-clause-written g c told =
    let array = c.args.array in
    let new = c.examine-found.new.array in
    let did = c.examine-found.ensures in
    let setting = setting_of g.B.Bank.tells (g.B.Bank.given array.parts.bank) (g.B.Bank.tape array.parts.bank) (g.B.Bank.tape new.parts.bank) c.args.backup (g.B.Bank.faults_of array.parts.bank) (g.B.Bank.faults_of new.parts.bank) in
    subst (λ (a : RunningParts g.row.B.Denot). IsWritten setting (histories_in (IsRunning array c.args.epochs)) (histories_in (IsRunning a c.args.epochs)) (HasWritten (g.B.Bank.given array.parts.bank) c.args.backup (Examine c.args.slot) c.told.result)) (sym did.else_same)
    (written-nothing setting (histories_in (IsRunning array c.args.epochs)) (HasWritten (g.B.Bank.given array.parts.bank) c.args.backup (Examine c.args.slot) c.told.result) (omega (arith, ap (λ (l : List Operation). length l) (did.tape told))))

pub returns-clause-grows : goal.returns-clause-grows
returns-clause-grows g c = grows-none c.examine-found.ensures.tape
