use Rattle.std.proofs.Common.{w8}
use Rattle.std.proofs.lemmas.Simd.{below_from_Fits}
use Rattle.raid_parity_simd.proofs.Lanes.{doubled_len, doubled_at, doubled_below}
use Rattle.raid_parity_simd.proofs.sectors.double_lanes.Goals as goal

pub returns-clause-lanes : goal.returns-clause-lanes
returns-clause-lanes c = doubled_len c.args.v c.fits-v.0

pub returns-clause-bytes : goal.returns-clause-bytes
returns-clause-bytes c = doubled_below c.args.v c.fits-v.0 (below_from_Fits w8 c.args.v c.fits-v.1)

pub returns-clause-each : goal.returns-clause-each
returns-clause-each c i lt = doubled_at c.args.v i c.fits-v.0 (below_from_Fits w8 c.args.v c.fits-v.1) lt
