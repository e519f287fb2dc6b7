use Rattle.std.proofs.Common.{refl}
use Rattle.array_requests.proofs.GoneOn.{gone-same, epoch-of, gone-shown}
use Rattle.array_requests.proofs.performing.show.Goals as goal

pub returns-in-Ok-clause-shown : goal.returns-in-Ok-clause-shown
returns-in-Ok-clause-shown g c =
    let did = c.in-Ok.ensures in
    record { status = c.in-Ok.status; end = did.entered.end; event_is = refl; told = did.told; few = did.few; is = did.entered.is }

pub returns-in-Ok-clause-went : goal.returns-in-Ok-clause-went
returns-in-Ok-clause-went g c =
    let did = c.in-Ok.ensures in
    gone-shown g.B.Bank.tells g.B.Bank.given g.B.Bank.tape g.B.Bank.faults_of c.args.array.now c.status.new.array did.entered did.bank did.members (epoch-of c.args.array.now c.status.new.array did.same) did.same.ahead

pub returns-in-Err-clause-went : goal.returns-in-Err-clause-went
returns-in-Err-clause-went g c = gone-same g.B.Bank.tells g.B.Bank.given g.B.Bank.tape g.B.Bank.faults_of c.args.array.now c.status.new.array c.in-Err.ensures.unchanged
