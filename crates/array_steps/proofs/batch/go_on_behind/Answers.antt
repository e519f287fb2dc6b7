use Rattle.std.proofs.Common.{◌≢◌, inr, ℕ, ◌<◌, ◌≤◌, Bool, true, false, List, Option, Result, Ok, Err, MatchOption, refl, sym, subst, arith}
use Rattle.std.specs.Prelude.{⊤}
use Rattle.array.specs.raid_types_the_Refusal.{Refusal}
use Rattle.array.specs.raid_types_the_Who.{Who}
use Rattle.array.specs.bank_the_Operation.{Operation}
use Rattle.array.specs.bank_Given.{Given}
use Rattle.array.specs.array_specs_Parts.{RunningParts}
use Rattle.array_steps.specs.Steps.{IsStepTaken, IsCountedBehind, IsGoneOn}
use Rattle.array_steps.proofs.batch.go_on_behind.Goals as goal

-- one step more, which doesn't end a reshape
gone-counted : {B : Type 0} (tells : Type 0) (given : B → Given) (tape : B → List Operation) (faults : B → ℕ → ℕ) (who : Who) (old new : RunningParts B) (before done : ℕ) (ended : Option Refusal) (taken : Result Bool Refusal)
    → IsStepTaken tells given tape faults who old new taken → taken ≢ Ok true → IsCountedBehind before taken done ended → IsGoneOn tells given tape faults who old new before done ended
gone-counted tells given tape faults who old new before done ended (Ok true) step on counted = absurd (on refl)
gone-counted tells given tape faults who old new before done ended (Ok false) step on counted =
    subst (λ (e : Option Refusal). IsGoneOn tells given tape faults who old new before done e) (sym counted.1)
    (inr (counted.0, step))
gone-counted tells given tape faults who old new before done ended (Err refusal) step on counted =
    subst (λ (e : Option Refusal). IsGoneOn tells given tape faults who old new before done e) (sym counted.1)
    (counted.0, step)

counted-fewer : (before done count : ℕ) (ended : Option Refusal) (taken : Result Bool Refusal) → before < count → IsCountedBehind before taken done ended → MatchOption ended ⊤ (λ refusal. done < count)
counted-fewer before done count ended (Ok over) less counted = subst (λ (e : Option Refusal). MatchOption e ⊤ (λ refusal. done < count)) (sym counted.1) tt
counted-fewer before done count ended (Err refusal) less counted =
    subst (λ (e : Option Refusal). MatchOption e ⊤ (λ refusal. done < count)) (sym counted.1) (subst (λ (n : ℕ). n < count) (sym counted.0) less)

less-than : (done count : ℕ) → done ≤ count → done ≢ count → done < count
less-than done count few not = omega (arith, few, not)

pub replace_with-requires : goal.replace_with-requires
replace_with-requires g c =
    let next = c.in-Take.ensures.next in
    (c.requires.going, (c.requires.caller, (omega (arith, c.requires.few, c.requires.room), (next.0.0, (next.0.1, (next.1, next.2))))))

pub returns-in-Take-clause-gone : goal.returns-in-Take-clause-gone
returns-in-Take-clause-gone g c =
    gone-counted g.B.Bank.tells g.B.Bank.given g.B.Bank.tape g.B.Bank.faults_of c.args.who c.args.array.now c.replace_with.new.dest c.args.done c.counted.result.done c.counted.result.ended c.replace_with.result
    c.replace_with.ensures.0 c.replace_with.ensures.1.0 c.counted.ensures

pub returns-in-Take-clause-fewer : goal.returns-in-Take-clause-fewer
returns-in-Take-clause-fewer g c = counted-fewer c.args.done c.counted.result.done c.args.count c.counted.result.ended c.replace_with.result (less-than c.args.done c.args.count c.requires.few c.if-done-count.false) c.counted.ensures

pub returns-else-recovers-clause-gone : goal.returns-else-recovers-clause-gone
returns-else-recovers-clause-gone g c =
    gone-counted g.B.Bank.tells g.B.Bank.given g.B.Bank.tape g.B.Bank.faults_of c.args.who c.args.array.now c.own_step.new.array c.args.done c.counted-in-Own.result.done c.counted-in-Own.result.ended c.own_step.result
    c.own_step.ensures.taken c.own_step.ensures.on c.counted-in-Own.ensures

pub returns-else-recovers-clause-fewer : goal.returns-else-recovers-clause-fewer
returns-else-recovers-clause-fewer g c =
    counted-fewer c.args.done c.counted-in-Own.result.done c.args.count c.counted-in-Own.result.ended c.own_step.result (less-than c.args.done c.args.count c.requires.few c.if-done-count.false) c.counted-in-Own.ensures
