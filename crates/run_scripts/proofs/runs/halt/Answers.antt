use Rattle.std.proofs.Common.{◌≡◌, ℕ, ◌+◌, ◌-◌, ◌≤◌, [], ◌∷◌, ◌++◌, length, refl, sym, ap, ◌∙◌, subst, le_refl, arith}
use Rattle.history_reopen_laws.specs.history_the_Epoch.{Epoch}
use Rattle.run_session.specs.sb_specs_Reading.{list_length}
use Rattle.run_session.specs.run_specs_Ended.{IsRunKept, AreFormer}
use Rattle.run_session.specs.run_specs_States.{histories_in, bank_in, RunsOwn}
use Rattle.run_session.proofs.run_requests_Legal.{former_halted}
use Rattle.run_session.specs.run_specs_Making.{setting_of}
use Rattle.run_scripts.specs.Runs.{IsEnded}
use Rattle.run_session.specs.run_specs_the_State.{State}
use Rattle.run_session.specs.run_specs_the_State_TheVariants.{Running}
use Rattle.run_session.proofs.run_specs_AskLaws.{asked_halt, halt_grew}
use Rattle.run_scripts.proofs.Ends.{ended_idle, ended_running}
use Rattle.history_reopen_laws.specs.history_the_Event_TheVariants.{Halted}
use Rattle.run_session.specs.run_specs_Histories.{histories_of}
use Rattle.run_session.specs.run_specs_Written.{IsWritten}
use Rattle.run_session.proofs.run_requests_Writing.{entered_end, written_idle, written_ended}
use Rattle.run_scripts.proofs.runs.halt.Goals as goal

place : (n : ℕ) → 1 ≤ n → (n - 1) + 1 ≡ n
place n some = omega arith

pub returns-in-Idle-clause-ended : goal.returns-in-Idle-clause-ended
returns-in-Idle-clause-ended g c =
    let bank = c.in-Idle.bank in
    subst (λ (s : State g.row.B.Denot). IsEnded (setting_of g.B.Bank.tells (g.B.Bank.given (bank_in s)) (g.B.Bank.tape bank) (g.B.Bank.tape bank) c.args.backup (g.B.Bank.faults_of bank) (g.B.Bank.faults_of bank)) s bank c.in-Idle.epochs.items) (sym c.in-Idle.is)
    (ended_idle (setting_of g.B.Bank.tells (g.B.Bank.given bank) (g.B.Bank.tape bank) (g.B.Bank.tape bank) c.args.backup (g.B.Bank.faults_of bank) (g.B.Bank.faults_of bank)) bank c.in-Idle.epochs (subst (λ (s : State g.row.B.Denot). RunsOwn s) c.in-Idle.is c.requires.own))

pub returns-in-Running-clause-ended : goal.returns-in-Running-clause-ended
returns-in-Running-clause-ended g c =
    let array = c.in-Running.array in
    let epoch : Epoch = c.halt-bank.result.1 in
    let did = c.halt-bank.ensures in
    let own = subst (λ (s : State g.row.B.Denot). RunsOwn s) c.in-Running.is c.requires.own in
    let items : c.push_reserved.new.self.items ≡ c.in-Running.epochs.items ++ epoch ∷ [] = c.push_reserved.ensures.items in
    let grew = halt_grew c.script_call-who.result did.entered in
    let asked = asked_halt (list_length array.parts.members.newest) (length epoch.entries.items - 1) c.script_call-who.result c.script_call-who.ensures did.entered (place _ grew) in
    let bank = c.halt-bank.result.0 in
    let setting = setting_of g.B.Bank.tells (g.B.Bank.given array.parts.bank) (g.B.Bank.tape bank) (g.B.Bank.tape bank) c.args.backup (g.B.Bank.faults_of bank) (g.B.Bank.faults_of bank) in
    subst (λ (s : State g.row.B.Denot). IsEnded (setting_of g.B.Bank.tells (g.B.Bank.given (bank_in s)) (g.B.Bank.tape bank) (g.B.Bank.tape bank) c.args.backup (g.B.Bank.faults_of bank) (g.B.Bank.faults_of bank)) s bank c.push_reserved.new.self.items) (sym c.in-Running.is)
    (subst (λ (b : g.row.B.Denot). IsEnded setting (Running array c.in-Running.epochs) b c.push_reserved.new.self.items) (sym did.bank)
    (ended_running setting c.script_call-who.result array epoch c.in-Running.epochs c.push_reserved.new.self items own did.entered did.uuid did.given did.first asked.0 (asked.1)))

pub returns-in-Running-clause-former : goal.returns-in-Running-clause-former
returns-in-Running-clause-former g c =
    let array = c.in-Running.array in
    let epoch : Epoch = c.halt-bank.result.1 in
    let did = c.halt-bank.ensures in
    let own = subst (λ (s : State g.row.B.Denot). RunsOwn s) c.in-Running.is c.requires.own in
    let items : c.push_reserved.new.self.items ≡ c.in-Running.epochs.items ++ epoch ∷ [] = c.push_reserved.ensures.items in
    let former = subst (λ (s : State g.row.B.Denot). IsRunKept g.B.Bank.tells (g.B.Bank.given (bank_in s)) (g.B.Bank.tape (bank_in s)) c.args.backup s) c.in-Running.is c.requires.former in
    subst (λ (s : State g.row.B.Denot). g.B.Bank.tells → AreFormer (g.B.Bank.given (bank_in s)) (g.B.Bank.tape c.halt-bank.result.0) c.args.backup (length (g.B.Bank.tape c.halt-bank.result.0)) c.push_reserved.new.self.items) (sym c.in-Running.is)
    (former_halted g.B.Bank.tells (λ (b : g.row.B.Denot). g.B.Bank.given b) (λ (b : g.row.B.Denot). g.B.Bank.tape b) c.args.backup array.parts c.halt-bank.result.0 epoch c.in-Running.epochs.items c.push_reserved.new.self.items items did.bank did.uuid did.given did.first
    did.ends did.last did.right did.plain former)

pub returns-in-Idle-clause-written : goal.returns-in-Idle-clause-written
returns-in-Idle-clause-written g c told =
    let bank = c.in-Idle.bank in
    subst (λ (s : State g.row.B.Denot). IsWritten (setting_of g.B.Bank.tells (g.B.Bank.given (bank_in s)) (g.B.Bank.tape bank) (g.B.Bank.tape bank) c.args.backup (g.B.Bank.faults_of bank) (g.B.Bank.faults_of bank)) (histories_in s) (histories_of c.in-Idle.epochs.items) (λ slot. ⊥)) (sym c.in-Idle.is)
    (written_idle (setting_of g.B.Bank.tells (g.B.Bank.given bank) (g.B.Bank.tape bank) (g.B.Bank.tape bank) c.args.backup (g.B.Bank.faults_of bank) (g.B.Bank.faults_of bank)) c.in-Idle.epochs.items c.in-Idle.epochs.items (λ slot. ⊥) refl (le_refl _))

pub returns-in-Running-clause-written : goal.returns-in-Running-clause-written
returns-in-Running-clause-written g c told =
    let array = c.in-Running.array in
    let epoch : Epoch = c.halt-bank.result.1 in
    let did = c.halt-bank.ensures in
    let own = subst (λ (s : State g.row.B.Denot). RunsOwn s) c.in-Running.is c.requires.own in
    let items : c.push_reserved.new.self.items ≡ c.in-Running.epochs.items ++ epoch ∷ [] = c.push_reserved.ensures.items in
    let former = subst (λ (s : State g.row.B.Denot). IsRunKept g.B.Bank.tells (g.B.Bank.given (bank_in s)) (g.B.Bank.tape (bank_in s)) c.args.backup s) c.in-Running.is c.requires.former in
    let bank = c.halt-bank.result.0 in
    let setting = setting_of g.B.Bank.tells (g.B.Bank.given array.parts.bank) (g.B.Bank.tape bank) (g.B.Bank.tape bank) c.args.backup (g.B.Bank.faults_of bank) (g.B.Bank.faults_of bank) in
    let same = ap (λ (b : g.row.B.Denot). length (g.B.Bank.tape b)) did.bank in
    let begun = former.begun told in
    let was = former.ended told in
    let end = entered_end epoch.first c.script_call-who.result Halted did.entered told in
    subst (λ (s : State g.row.B.Denot). IsWritten (setting_of g.B.Bank.tells (g.B.Bank.given (bank_in s)) (g.B.Bank.tape bank) (g.B.Bank.tape bank) c.args.backup (g.B.Bank.faults_of bank) (g.B.Bank.faults_of bank)) (histories_in s) (histories_of c.push_reserved.new.self.items) (λ slot. ⊥)) (sym c.in-Running.is)
    (written_ended setting array bank epoch c.in-Running.epochs c.push_reserved.new.self (λ slot. ⊥) items did.first (subst (λ (n : ℕ). array.parts.first ≤ n) (sym same) begun) (le_refl _) (was ∙ sym same) (end ∙ sym same))
