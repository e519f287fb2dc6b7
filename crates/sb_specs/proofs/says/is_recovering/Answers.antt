use Rattle.std.proofs.Common.{lit<, refl}
use Rattle.sb_specs.proofs.FeatureBits.{masked}
use Rattle.sb_specs.proofs.says.is_recovering.Goals as goal

pub returns : goal.returns
returns c = masked c.args.sb.now.feature_map 1 2 refl (lit< tt)
