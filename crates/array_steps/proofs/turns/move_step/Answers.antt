use Rattle.std.specs.Prelude.{⊤}
use Rattle.array.specs.array_reshaping_state_Due.{due_of}
use Rattle.array_steps.proofs.Refusals.{moved-by}
use Rattle.array_steps.proofs.Moved.{moved-did, moved-done, moved-refused}
use Rattle.array_steps.proofs.turns.move_step.Goals as goal

pub returns-in-Ok-clause-taken : goal.returns-in-Ok-clause-taken
returns-in-Ok-clause-taken g c =
    let s = c.in-Ok.ensures in
    let old = c.args.array.now in
    moved-done g.B.Bank.tells g.B.Bank.given g.B.Bank.tape g.B.Bank.faults_of c.args.who old c.move_on.new.self c.requires.open c.requires.active s.stays (due_of old.parts.members.newest old.course old.parts.work.resync) c.requires.due s.called s.given s.entered s.left

pub returns-in-Err-Refused-clause-taken : goal.returns-in-Err-Refused-clause-taken
returns-in-Err-Refused-clause-taken g c =
    let s = c.in-Err-Refused.ensures in
    let old = c.args.array.now in
    let new = c.move_on.new.self in
    moved-refused g.B.Bank.tells g.B.Bank.given g.B.Bank.tape g.B.Bank.faults_of c.args.who old new c.requires.open c.requires.active s.stays (moved-did g.B.Bank.tells g.B.Bank.given g.B.Bank.tape g.B.Bank.faults_of old new s.called s.given c.requires.active s.stays) c.in-Err-Refused.refusal
    (rw c.in-Err-Refused.field-0-is at s.entered)
    (moved-by ⊤ old.parts.members.newest old.course old.parts.work.resync old.parts.backup old.parts.members new (g.B.Bank.faults_of old.parts.bank) (g.B.Bank.faults_of new.parts.bank) c.in-Err-Refused.refusal
    (rw s.called.same.array.backup at s.backed) s.stays (rw c.in-Err-Refused.field-0-is at s.caused) (rw c.in-Err-Refused.field-0-is at s.ends))
    (rw c.in-Err-Refused.field-0-is at s.ends)
