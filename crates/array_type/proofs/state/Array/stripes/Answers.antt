use Rattle.array_parts.proofs.array_members_Fit.{valid}
use Rattle.array_type.proofs.Alike.{alike}
use Rattle.array_type.proofs.state.Array.stripes.Goals as goal

pub stripes-requires : goal.stripes-requires
stripes-requires g c = record { shape = valid (g.B.Bank.given c.self.inside.bank) c.self.inside.members (alike c.self.invariant).kept.members_are.placed }
