use Rattle.std.proofs.Common.{[], ◌∷◌}
use Rattle.lane_shared.specs.Serving.{array_ways}
use Rattle.lane_shared.proofs.RowLaws.{ended-as}
use Rattle.lane_shared.proofs.starting.closed.Goals as goal

pub returns : goal.returns
returns g c = ended-as (array_ways g.B.Bank.tells g.B.Bank.given g.B.Bank.tape g.B.Bank.faults_of) c.args.shared.lock.table.shared.key.value c.put_back.result.items (c.args.passes.0 ∷ c.args.passes.1 ∷ c.args.passes.2 ∷ []) c.close.result c.put_back.ensures c.close.ensures.ended
