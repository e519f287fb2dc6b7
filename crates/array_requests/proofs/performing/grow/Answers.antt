use Rattle.array_requests.proofs.GoneOn.{gone-run}
use Rattle.array_requests.proofs.Ways.{way-planned, way-same}
use Rattle.array_requests.proofs.performing.grow.Goals as goal

pub returns-in-Ok-clause-went : goal.returns-in-Ok-clause-went
returns-in-Ok-clause-went g c =
    let did = c.in-Ok.ensures in
    gone-run g.B.Bank.tells g.B.Bank.given g.B.Bank.tape g.B.Bank.faults_of c.args.array.now c.plan_grow.new.array did.went (way-planned c.args.array.now c.plan_grow.new.array did.went.more did.went.grown did.as_before.members did.answered)

pub returns-in-Err-Refused-clause-went : goal.returns-in-Err-Refused-clause-went
returns-in-Err-Refused-clause-went g c =
    let did = c.in-Err-Refused.ensures in
    gone-run g.B.Bank.tells g.B.Bank.given g.B.Bank.tape g.B.Bank.faults_of c.args.array.now c.plan_grow.new.array did.went (way-same c.args.array.now c.plan_grow.new.array did.went.more did.as_before.members did.refused)

pub returns-in-Err-NoMemory-clause-went : goal.returns-in-Err-NoMemory-clause-went
returns-in-Err-NoMemory-clause-went g c =
    let did = c.in-Err-NoMemory.ensures in
    gone-run g.B.Bank.tells g.B.Bank.given g.B.Bank.tape g.B.Bank.faults_of c.args.array.now c.plan_grow.new.array did.went (way-same c.args.array.now c.plan_grow.new.array did.went.more did.as_before.members did.refused)
