use Rattle.raid_parity_simd.proofs.Halves.{low_reads, high_reads, both-len, both_lane}
use Rattle.raid_parity_simd.proofs.sectors.looked_up.Goals as goal

pub swizzle-of_low : goal.swizzle-of_low
swizzle-of_low c = low_reads c.args.v c.fits-v

pub swizzle-of_high : goal.swizzle-of_high
swizzle-of_high c = high_reads c.args.v c.fits-v

pub returns-clause-lanes : goal.returns-clause-lanes
returns-clause-lanes c = both-len c.args.v c.fits-v c.args.products.now.factor c.args.products.now.low c.args.products.now.high

pub returns-clause-each : goal.returns-clause-each
returns-clause-each c i lt = both_lane c.args.v c.fits-v c.args.products.now.factor c.args.products.now.low c.args.products.now.high c.requires.low c.requires.high i lt
