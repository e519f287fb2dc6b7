use Rattle.std.proofs.Common.{length}
use Rattle.array.proofs.Both.{within-both}
use Rattle.array.proofs.state.Running.check_stored.Goals as goal

pub returns : goal.returns
returns g c =
    rw (← c.self.view_is) (record { stored = (within-both g.B.Bank.given g.B.Bank.tape (length c.self.inside.window.items) c.self.inside.array c.self.invariant).stored })
