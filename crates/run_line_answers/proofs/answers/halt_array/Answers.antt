use Rattle.std.proofs.Common.{◌≡◌, ℕ, ◌+◌, ◌-◌, ◌≤◌, [], ◌∷◌, ◌++◌, length, sym, ap, ◌∙◌, subst, le_of_eq, arith}
use Rattle.run_requests.specs.history_the_Epoch.{Epoch}
use Rattle.run_requests.specs.history_the_Event.{Event}
use Rattle.run_requests.specs.run_specs_Histories.{history_of, is_end}
use Rattle.run_requests.specs.sb_specs_Reading.{list_length}
use Rattle.run_requests.specs.script_the_Line_TheVariants.{Halt as AsksHalt}
use Rattle.run_requests.specs.run_specs_Making.{setting_of}
use Rattle.run_requests.specs.array_call_specs_Calls.{AreLossesOf}
use Rattle.run_requests.specs.run_specs_States.{IsTurn}
use Rattle.run_requests.specs.run_specs_the_Answered.{Answered}
use Rattle.run_requests.specs.run_specs_the_State_TheVariants.{Idle as IsIdle, Running as IsRunning}
use Rattle.run_requests.proofs.run_specs_AskLaws.{asked_halt, halt_grew}
use Rattle.run_requests.proofs.Legal.{former_halted}
use Rattle.run_requests.proofs.run_specs_Losses.{losses-halted}
use Rattle.run_requests.proofs.run_specs_Turned.{asked-tellable, halt-told}
use Rattle.run_line_answers.proofs.Turns.{turn_ended}
use Rattle.run_requests.specs.history_the_Event_TheVariants.{Halted}
use Rattle.run_requests.specs.run_specs_Written.{HasWritten}
use Rattle.run_requests.proofs.Writing.{entered_end, written_ended}
use Rattle.run_line_answers.proofs.answers.halt_array.Goals as goal

place : (n k : ℕ) → 1 ≤ n → k ≡ n → (k - 1) + 1 ≡ n
place n k some is = omega arith

pub overflow_sub-len : goal.overflow_sub-len
overflow_sub-len g c = subst (λ n. 1 ≤ n) (sym c.len.ensures) (halt_grew c.script_call-who.result c.halt-bank.ensures.entered)

pub returns-clause-answered : goal.returns-clause-answered
returns-clause-answered g c =
    let array = c.args.array in
    let bank = c.halt-bank.result.0 in
    let epoch : Epoch = c.halt-bank.result.1 in
    let did = c.halt-bank.ensures in
    let items : c.push_reserved.new.self.items ≡ c.args.epochs.items ++ epoch ∷ [] = c.push_reserved.ensures.items in
    let setting = setting_of g.B.Bank.tells (g.B.Bank.given array.parts.bank) (g.B.Bank.tape array.parts.bank) (g.B.Bank.tape bank) c.args.backup (g.B.Bank.faults_of array.parts.bank) (g.B.Bank.faults_of bank) in
    let grew = halt_grew c.script_call-who.result did.entered in
    let asked = asked_halt (list_length array.parts.members.newest) (c.len.result - 1) c.script_call-who.result c.script_call-who.ensures did.entered (place _ _ grew c.len.ensures) in
    let lost = losses-halted setting c.script_call-who.result (history_of epoch) did.entered in
    subst (λ (what : Answered). IsTurn setting (IsRunning array c.args.epochs) (IsIdle bank c.push_reserved.new.self) AsksHalt what) (sym c.inside-what.ensures)
    (turn_ended setting array epoch bank c.args.epochs c.push_reserved.new.self items c.requires.own lost did.uuid did.given did.first AsksHalt (c.len.result - 1) asked.0 (asked-tellable asked.0 (halt-told asked.0.event asked.0.fits))
    (subst (λ (b : g.row.B.Denot). AreLossesOf array.parts.members (g.B.Bank.faults_of array.parts.bank) (g.B.Bank.faults_of b) array.parts.entries epoch.entries.items) (sym did.bank) did.losses) tt
    (λ t. let at = asked.2 t in let same = ap (λ (b : g.row.B.Denot). length (g.B.Bank.tape b)) did.bank in (le_of_eq (sym at), le_of_eq (at ∙ sym same))) (ap (λ (e : Event). is_end e) (asked.1)))

pub returns-clause-former : goal.returns-clause-former
returns-clause-former g c =
    let array = c.args.array in
    let epoch : Epoch = c.halt-bank.result.1 in
    let did = c.halt-bank.ensures in
    let items : c.push_reserved.new.self.items ≡ c.args.epochs.items ++ epoch ∷ [] = c.push_reserved.ensures.items in
    former_halted g.B.Bank.tells (λ (b : g.row.B.Denot). g.B.Bank.given b) (λ (b : g.row.B.Denot). g.B.Bank.tape b) c.args.backup array.parts c.halt-bank.result.0 epoch c.args.epochs.items c.push_reserved.new.self.items items did.bank did.uuid did.given did.first
    did.ends did.last did.right did.plain c.requires.former

pub returns-clause-written : goal.returns-clause-written
returns-clause-written g c told =
    let array = c.args.array in
    let epoch : Epoch = c.halt-bank.result.1 in
    let did = c.halt-bank.ensures in
    let items : c.push_reserved.new.self.items ≡ c.args.epochs.items ++ epoch ∷ [] = c.push_reserved.ensures.items in
    let bank = c.halt-bank.result.0 in
    let setting = setting_of g.B.Bank.tells (g.B.Bank.given array.parts.bank) (g.B.Bank.tape array.parts.bank) (g.B.Bank.tape bank) c.args.backup (g.B.Bank.faults_of array.parts.bank) (g.B.Bank.faults_of bank) in
    let same = ap (λ (b : g.row.B.Denot). length (g.B.Bank.tape b)) did.bank in
    let end = entered_end epoch.first c.script_call-who.result Halted did.entered told in
    written_ended setting array bank epoch c.args.epochs c.push_reserved.new.self (HasWritten (g.B.Bank.given array.parts.bank) c.args.backup AsksHalt _) items did.first (c.requires.former.begun told) (le_of_eq (sym same))
    (c.requires.former.ended told) (end ∙ sym same)
