use Rattle.lane_shared.proofs.Answered.{answered}
use Rattle.lane_shared.proofs.Carried.{goes-on, replied, own}
use Rattle.lane_shared.proofs.sharing.SharedService.call.Goals as goal

pub returns-clause-answered : goal.returns-clause-answered
returns-clause-answered g c =
    answered g.B.Bank.tells g.B.Bank.given g.B.Bank.tape g.B.Bank.faults_of c.args.pass c.call.result.0 c.args.request c.call.result.1 c.call.ensures.called

pub returns-clause-later : goal.returns-clause-later
returns-clause-later g c =
    goes-on g.B.Bank.tells g.B.Bank.given g.B.Bank.tape g.B.Bank.faults_of c.args.pass c.call.result.0 c.args.request c.call.result.1 c.call.ensures.same.1
    (returns-clause-answered g c)

pub returns-clause-entered : goal.returns-clause-entered
returns-clause-entered g c =
    let k = returns-clause-answered g c in
    replied g.B.Bank.tells g.B.Bank.given g.B.Bank.tape g.B.Bank.faults_of c.args.pass c.call.result.0 c.args.request c.call.result.1 c.call.ensures.same.1 k c.call.result.1 k.told

pub returns-clause-own : goal.returns-clause-own
returns-clause-own g c =
    own g.B.Bank.tells g.B.Bank.given g.B.Bank.tape g.B.Bank.faults_of c.args.pass c.call.result.0 c.args.request c.call.result.1 c.call.ensures.same.1
    (returns-clause-answered g c)
