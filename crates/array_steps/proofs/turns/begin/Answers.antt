use Rattle.array_steps.proofs.Begun.{begin-done, begin-refused}
use Rattle.array_steps.proofs.turns.begin.Goals as goal

pub returns-in-Ok-clause-taken : goal.returns-in-Ok-clause-taken
returns-in-Ok-clause-taken g c =
    let s = c.in-Ok.ensures in
    begin-done g.B.Bank.tells g.B.Bank.given g.B.Bank.tape g.B.Bank.faults_of c.args.begin.0 c.args.array c.in-Ok.array c.args.begin.1 s.begun.0 s.begun.1 c.requires.still c.requires.open.goes s.begun.2 s.given

pub returns-in-Err-clause-taken : goal.returns-in-Err-clause-taken
returns-in-Err-clause-taken g c =
    let s = c.in-Err.ensures in
    begin-refused g.B.Bank.tells g.B.Bank.given g.B.Bank.tape g.B.Bank.faults_of c.args.begin.0 c.args.array c.in-Err.array c.args.begin.1 c.in-Err.refusal c.requires.open.goes s.backed s.refused s.caused s.ends s.grows s.never_falls s.left_given
