use Rattle.std.proofs.Common.{lit<, refl}
use Rattle.stripe_row.proofs.sb_specs_FeatureBits.{masked}
use Rattle.reshape_request.proofs.shapes.has_backward_bit.Goals as goal

pub returns : goal.returns
returns c = masked c.args.map 5 32 refl (lit< tt)
