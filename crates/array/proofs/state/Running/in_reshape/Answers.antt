use Rattle.std.proofs.Common.{length}
use Rattle.array.proofs.Kept.{reshape-first}
use Rattle.array.proofs.Both.{kept-in-reshape}
use Rattle.array.proofs.state.Running.in_reshape.Goals as goal

pub invariant_of-result : goal.invariant_of-result
invariant_of-result g c =
    kept-in-reshape g.B.Bank.given g.B.Bank.tape (length c.new.result.items) c.args.array
    (reshape-first (g.B.Bank.given c.args.array.parts.bank) (g.B.Bank.tape c.args.array.parts.bank) c.args.array c.requires.active c.check_array.ensures.within
    c.requires.last c.requires.unplanned c.requires.turned)
