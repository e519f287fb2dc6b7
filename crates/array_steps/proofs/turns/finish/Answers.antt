use Rattle.array_steps.proofs.Ended.{finish-done}
use Rattle.array_steps.proofs.Moved.{ended-refused}
use Rattle.array_steps.proofs.turns.finish.Goals as goal

pub returns-in-Ok-clause-taken : goal.returns-in-Ok-clause-taken
returns-in-Ok-clause-taken g c =
    let s = c.in-Ok.ensures in
    finish-done g.B.Bank.tells g.B.Bank.given g.B.Bank.tape g.B.Bank.faults_of c.args.who c.args.array c.in-Ok.array c.requires.open c.requires.active s.ended s.given s.closable

pub returns-in-Err-clause-taken : goal.returns-in-Err-clause-taken
returns-in-Err-clause-taken g c =
    let s = c.in-Err.ensures in
    ended-refused g.B.Bank.tells g.B.Bank.given g.B.Bank.tape g.B.Bank.faults_of c.args.who c.args.array c.in-Err.array c.requires.open c.requires.active s.left_active s.called s.left_given c.in-Err.refusal s.refused s.caused s.ends
