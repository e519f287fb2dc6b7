use Rattle.std.proofs.Common.{w8}
use Rattle.std.proofs.lemmas.Simd.{below_from_Fits}
use Rattle.raid_parity_simd.proofs.Lanes.{doubled_with-len, doubled_with_at}
use Rattle.raid_parity_simd.proofs.sectors.double_and_add.Goals as goal

pub returns-clause-lanes : goal.returns-clause-lanes
returns-clause-lanes c = doubled_with-len c.args.v c.args.more c.fits-v.0 c.fits-more.0

pub returns-clause-each : goal.returns-clause-each
returns-clause-each c i lt = doubled_with_at c.args.v c.args.more i c.fits-v.0 c.fits-more.0 (below_from_Fits w8 c.args.v c.fits-v.1) lt
