use Rattle.std.specs.Prelude.{⊤}
use Rattle.array.proofs.array_transition_Begun.{unturned-open}
use Rattle.array_steps.proofs.Own.{own-done, own-refused}
use Rattle.array_steps.proofs.turns.own_step.Goals as goal

pub resync_or_rebuild-requires-clause-unbroken : goal.resync_or_rebuild-requires-clause-unbroken
resync_or_rebuild-requires-clause-unbroken g c = λ ends.
    let kept = c.requires.unbroken ends in
    record { goes = kept.goes; kept = λ t right. unturned-open _ c.args.array.now.parts.entries c.args.who kept }

pub returns-in-Ok-clause-taken : goal.returns-in-Ok-clause-taken
returns-in-Ok-clause-taken g c =
    let s = c.in-Ok.ensures in
    own-done g.B.Bank.tells g.B.Bank.given g.B.Bank.tape g.B.Bank.faults_of c.args.who c.args.array.now c.resync_or_rebuild.new.self c.requires.open c.requires.still s.left_still s.stepped s.held s.given c.requires.pending c.in-Ok.field-0 s.entered s.left s.closable

pub returns-in-Err-Refused-clause-taken : goal.returns-in-Err-Refused-clause-taken
returns-in-Err-Refused-clause-taken g c =
    let s = c.in-Err-Refused.ensures in
    own-refused g.B.Bank.tells g.B.Bank.given g.B.Bank.tape g.B.Bank.faults_of c.args.who c.args.array.now c.resync_or_rebuild.new.self c.requires.open c.requires.still s.left_still s.stepped s.held s.given c.requires.pending ⊤ c.in-Err-Refused.refusal
    (rw c.in-Err-Refused.field-0-is at s.entered) (rw c.in-Err-Refused.field-0-is at s.caused) (rw c.in-Err-Refused.field-0-is at s.ends)
