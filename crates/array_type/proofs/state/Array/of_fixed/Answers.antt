use Rattle.std.proofs.Common.{refl}
use Rattle.array_type.proofs.Alike.{stays-at-rest}
use Rattle.array_type.proofs.state.Array.of_fixed.Goals as goal

pub invariant_of-result : goal.invariant_of-result
invariant_of-result g c = stays-at-rest refl c.requires.ready
