use Rattle.std.proofs.Common.{lit<, refl}
use Rattle.sb_update.proofs.sb_specs_FeatureBits.{masked}
use Rattle.reshape_sb_updates.proofs.position.has_backward_bit.Goals as goal

pub returns : goal.returns
returns c = masked c.args.map 5 32 refl (lit< tt)
