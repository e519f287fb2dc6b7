use Rattle.std.proofs.Common.{◌≡◌, ℕ, ◌<◌, ◌≤◌, Bool, false, List, Result, Ok, Err, arith}
use Rattle.std.specs.Prelude.{IfOk}
use Rattle.array.specs.raid_types_the_Refusal.{Refusal}
use Rattle.array.specs.raid_types_the_Who.{Who}
use Rattle.array.specs.bank_the_Operation.{Operation}
use Rattle.array.specs.bank_Given.{Given}
use Rattle.array.specs.array_specs_Parts.{RunningParts}
use Rattle.array.specs.Calls.{running_left}
use Rattle.array_steps.specs.Steps.{IsOpenFor, IsStepTaken}
use Rattle.array_steps.proofs.Plain.{going-of}
use Rattle.array_steps.proofs.stepping.take_step.Goals as goal

-- behind a step that is done the call is open for the next one
behind-open : {B : Type 0} (tells : Type 0) (given : B → Given) (tape : B → List Operation) (faults : B → ℕ → ℕ) (who : Who) (old new : RunningParts B) (result : Result Bool Refusal)
    → IsOpenFor old who → IsStepTaken tells given tape faults who old new result → IfOk result (λ over. over ≡ false → 0 < running_left new → IsOpenFor new who)
behind-open tells given tape faults who old new (Ok over) was taken = λ none left. taken.next_open none left was
behind-open tells given tape faults who old new (Err refusal) was taken = tt

one-of : (n : ℕ) → 2 ≤ n → 1 ≤ n
one-of n two = omega arith

pub replace_with-requires : goal.replace_with-requires
replace_with-requires g c =
    let next = c.in-Begin.ensures.next in
    let kept = rw next.0.0 at c.requires.open in
    (kept, (c.requires.caller, (one-of c.args.array.now.parts.steps c.requires.room, (next.0.0, (next.0.1, (next.1, next.2))))))

pub replace_with-requires-in-Take : goal.replace_with-requires-in-Take
replace_with-requires-in-Take g c =
    let next = c.in-Take.ensures.next in
    (going-of c.args.array.now c.args.who c.requires.open, (c.requires.caller, (one-of c.args.array.now.parts.steps c.requires.room, (next.0.0, (next.0.1, (next.1, next.2))))))

pub returns-in-Own-clause-open : goal.returns-in-Own-clause-open
returns-in-Own-clause-open g c =
    behind-open g.B.Bank.tells g.B.Bank.given g.B.Bank.tape g.B.Bank.faults_of c.args.who c.args.array.now c.own_step.new.array c.own_step.result c.requires.open c.own_step.ensures.taken

pub returns-in-Begin-clause-open : goal.returns-in-Begin-clause-open
returns-in-Begin-clause-open g c =
    behind-open g.B.Bank.tells g.B.Bank.given g.B.Bank.tape g.B.Bank.faults_of c.args.who c.args.array.now c.replace_with.new.dest c.replace_with.result c.requires.open c.replace_with.ensures.0

pub returns-in-Take-clause-open : goal.returns-in-Take-clause-open
returns-in-Take-clause-open g c =
    behind-open g.B.Bank.tells g.B.Bank.given g.B.Bank.tape g.B.Bank.faults_of c.args.who c.args.array.now c.replace_with-in-Take.new.dest c.replace_with-in-Take.result c.requires.open c.replace_with-in-Take.ensures.0

pub returns-in-Move-clause-open : goal.returns-in-Move-clause-open
returns-in-Move-clause-open g c =
    behind-open g.B.Bank.tells g.B.Bank.given g.B.Bank.tape g.B.Bank.faults_of c.args.who c.args.array.now c.move_step.new.array c.move_step.result c.requires.open c.move_step.ensures.taken
