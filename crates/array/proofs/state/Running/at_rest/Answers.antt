use Rattle.std.proofs.Common.{length}
use Rattle.array.proofs.Kept.{rest-first}
use Rattle.array.proofs.Both.{kept-at-rest}
use Rattle.array.proofs.state.Running.at_rest.Goals as goal

pub invariant_of-result : goal.invariant_of-result
invariant_of-result g c =
    kept-at-rest g.B.Bank.given g.B.Bank.tape (length c.new.result.items) c.args.array
    (rest-first (g.B.Bank.given c.args.array.parts.bank) (g.B.Bank.tape c.args.array.parts.bank) (length c.new.result.items) c.args.array (c.check_array.ensures.rest c.requires.still) c.check_array.ensures.within
    c.requires.planless c.requires.unplanned c.requires.aside)
