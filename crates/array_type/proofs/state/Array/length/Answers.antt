use Rattle.std.proofs.Common.{arith}
use Rattle.array_type.proofs.Alike.{alike}
use Rattle.array_type.proofs.state.Array.length.Goals as goal

pub list_sectors-requires : goal.list_sectors-requires
list_sectors-requires g c = record { fit = (alike c.self.invariant).kept.members_are.placed.fit }

pub returns-clause-length : goal.returns-clause-length
returns-clause-length g c = rw (← c.self.view_is) c.list_sectors.ensures.length

pub returns-clause-few : goal.returns-clause-few
returns-clause-few g c = let few = c.list_sectors.ensures.short in omega (arith, few)
