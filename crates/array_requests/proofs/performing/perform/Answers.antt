use Rattle.std.proofs.Common.{List, length, ap, arith}
use Rattle.history_append.specs.history_the_Entry.{Entry}
use Rattle.array_requests.proofs.Done.{performed-some}
use Rattle.array_requests.proofs.Entered.{entered-same, entered-of}
use Rattle.array_requests.proofs.performing.perform.Goals as goal

pub overflow_sub-result : goal.overflow_sub-result
overflow_sub-result g c =
    let some = performed-some c.args.request c.args.who c.args.array.now c.answer.new.array.parts.entries c.in-Ok.event c.in-Ok.ensures.replied in
    let long = ap (λ (l : List Entry). length l) c.epoch.ensures.entries in
    omega (arith, some, long, c.len.ensures)

pub returns-in-Ok-clause-replied : goal.returns-in-Ok-clause-replied
returns-in-Ok-clause-replied g c =
    let some = performed-some c.args.request c.args.who c.args.array.now c.answer.new.array.parts.entries c.in-Ok.event c.in-Ok.ensures.replied in
    let long = ap (λ (l : List Entry). length l) c.epoch.ensures.entries in
    (c.in-Ok.ensures.replied, omega (arith, some, long, c.len.ensures))

pub returns-in-Ok-clause-entered : goal.returns-in-Ok-clause-entered
returns-in-Ok-clause-entered g c =
    let did = c.in-Ok.ensures in
    entered-of g.B.Bank.tells g.B.Bank.given g.B.Bank.tape g.B.Bank.faults_of c.args.array.now c.answer.new.array did.went c.args.who c.in-Ok.event c.requires.next c.args.request did.replied did.counted did.rest

pub returns-in-Err-clause-entered : goal.returns-in-Err-clause-entered
returns-in-Err-clause-entered g c = entered-same c.args.array.now c.answer.new.array c.in-Err.ensures.unchanged
