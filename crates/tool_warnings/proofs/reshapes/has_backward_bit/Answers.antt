use Rattle.std.proofs.Common.{lit<, refl}
use Rattle.sb_specs.proofs.FeatureBits.{masked}
use Rattle.tool_warnings.proofs.reshapes.has_backward_bit.Goals as goal

pub returns : goal.returns
returns c = masked c.args.map 5 32 refl (lit< tt)
