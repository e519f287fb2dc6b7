use Rattle.std.proofs.Common.{◌≡◌, ℕ, ◌<◌, List, ◌∷◌, [], ◌++◌, length, length-append, Option, ap, subst, arith}
use Rattle.run_specs.specs.raid_types_the_Refusal.{Refusal}
use Rattle.run_specs.specs.raid_types_the_Who.{Who}
use Rattle.run_specs.specs.history_the_Entry.{Entry}
use Rattle.run_specs.specs.history_the_Event.{Event}
use Rattle.run_specs.specs.history_the_Request_TheVariants.{Steps as AsksSteps}
use Rattle.run_specs.specs.script_the_Line_TheVariants.{Step as StepLine}
use Rattle.run_specs.specs.array_reply_specs_Replies.{RunningFits}
use Rattle.run_specs.specs.array_specs_Parts.{RunningParts}
use Rattle.run_specs.specs.array_Calls.{running_left}
use Rattle.run_specs.specs.array_steps_Steps.{IsStepCount}
use Rattle.run_specs.specs.sb_specs_Reading.{list_length}
use Rattle.run_specs.specs.Caused.{record_of}
use Rattle.run_specs.proofs.AskLaws.{with-grew, asked_with}
use Rattle.run_requests.proofs.CausedLaws.{steps-judged}
use Rattle.run_requests.proofs.RecordLaws.{steps-answered}
use Rattle.run_specs.proofs.Turned.{told-still, told-steps, steps-tellable}
use Rattle.run_requests.proofs.Called.{script-numbered}
use Rattle.run_requests.proofs.asks.ask_steps.Goals as goal

pub returns-clause-turning : goal.returns-clause-turning
returns-clause-turning g c =
    let did = c.in-Ok.ensures in
    let old = c.args.array.now in
    let new = c.steps.new.array in
    told-steps g.B.Bank.tells g.B.Bank.given g.B.Bank.tape g.B.Bank.faults_of old new did.went c.requires.turning did.replied
    (λ (done left : ℕ) (ended : Option Refusal) is. (subst (λ (e : Event). IsStepCount old.parts.entries new.parts.entries (running_left old) (running_left new) e) is did.counted).0) did.rest

pub returns-clause-tellable : goal.returns-clause-tellable
returns-clause-tellable g c =
    let did = c.in-Ok.ensures in
    steps-tellable g.B.Bank.tells g.B.Bank.given g.B.Bank.tape g.B.Bank.faults_of c.args.array.now c.steps.new.array did.went c.requires.turning did.replied c.last_place.result c.last_place.ensures did.may

pub returns-in-Err-clause-turning : goal.returns-in-Err-clause-turning
returns-in-Err-clause-turning g c = told-still c.in-Err.ensures.unchanged c.requires.turning

pub returns-clause-judged : goal.returns-clause-judged
returns-clause-judged g c =
    let did = c.in-Ok.ensures in
    let old = c.args.array.now in
    steps-judged (list_length old.parts.members.newest) c.script_call-who.result (g.B.Bank.given old.parts.bank) (record_of old) c.steps.new.array.parts.entries c.last_place.result c.last_place.ensures (running_left c.steps.new.array) did.replied did.counted

pub returns-clause-stepped : goal.returns-clause-stepped
returns-clause-stepped g c =
    let did = c.in-Ok.ensures in
    steps-answered g.B.Bank.tells g.B.Bank.given g.B.Bank.tape g.B.Bank.faults_of c.args.array.now c.steps.new.array did.went did.replied did.counted did.told did.rest did.kept

-- the script isn't the opening's caller
apart : (n : ℕ) → n ≡ 0 → n ≡ 254 → ⊥
apart n zero is = absurd (omega (arith, zero, is))

longer : (old inner new : List Entry) (e : Entry) → new ≡ old ++ (inner ++ e ∷ []) → length old < length new
longer old inner new e is = let long = ap (λ (l : List Entry). length l) is in omega (arith, long, length-append old (inner ++ e ∷ []), length-append inner (e ∷ []))

pub steps-requires-clause-next : goal.steps-requires-clause-next
steps-requires-clause-next g c = script-numbered c.args.array.now.parts.entries c.script_call-who.result c.script_call-who.ensures

pub steps-requires-clause-caller : goal.steps-requires-clause-caller
steps-requires-clause-caller g c = apart c.script_call-who.result.caller (ap (λ (w : Who). w.caller) c.script_call-who.ensures)

pub last_place-requires : goal.last_place-requires
last_place-requires g c = with-grew c.in-Ok.ensures.replied

pub returns-clause-asked : goal.returns-clause-asked
returns-clause-asked g c =
    let size = list_length c.args.array.now.parts.members.newest in
    asked_with (StepLine c.args.most) c.last_place.result c.in-Ok.ensures.replied
    (λ (before : List Entry) (e : Entry) (fits : RunningFits size before e (AsksSteps c.from.result)). subst (λ (n : ℕ). RunningFits size before e (AsksSteps n)) c.from.ensures fits)
    c.script_call-who.ensures c.last_place.ensures

pub returns-clause-more : goal.returns-clause-more
returns-clause-more g c = let was = c.in-Ok.ensures.replied in longer c.args.array.now.parts.entries was.inner c.steps.new.array.parts.entries _ was.is

pub returns-in-Err-clause-asked : goal.returns-in-Err-clause-asked
returns-in-Err-clause-asked g c = ap (λ (a : RunningParts g.row.B.Denot). a.parts.entries) c.in-Err.ensures.unchanged
