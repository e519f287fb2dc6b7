use Rattle.array_steps.proofs.Taken.{take-done, take-refused}
use Rattle.array_steps.proofs.turns.take.Goals as goal

pub returns-in-Ok-clause-taken : goal.returns-in-Ok-clause-taken
returns-in-Ok-clause-taken g c =
    let s = c.in-Ok.ensures in
    take-done g.B.Bank.tells g.B.Bank.given g.B.Bank.tape g.B.Bank.faults_of c.args.take.0 c.args.array c.in-Ok.array c.args.take.1 s.taken.0 s.taken.1 c.requires.still c.requires.open s.taken.2 s.given s.closable

pub returns-in-Err-clause-taken : goal.returns-in-Err-clause-taken
returns-in-Err-clause-taken g c =
    let s = c.in-Err.ensures in
    take-refused g.B.Bank.tells g.B.Bank.given g.B.Bank.tape g.B.Bank.faults_of c.args.take.0 c.args.array c.in-Err.array c.args.take.1 c.in-Err.refusal c.requires.open s.refused s.caused s.ends
