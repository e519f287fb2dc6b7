use Rattle.std.proofs.Common.{arith}
use Rattle.stripe_suspects.proofs.differences.copy_of.Goals as goal

pub returns-clause-bytes : goal.returns-clause-bytes
returns-clause-bytes c place = let h = c.type_inv.row place in omega (arith, h)
