use Rattle.std.proofs.Common.{w8}
use Rattle.std.proofs.lemmas.Simd.{length-chunk, chunk-fits, below_from_Fits}
use Rattle.raid_parity_simd.proofs.sectors.load.Goals as goal

pub returns-clause-lanes : goal.returns-clause-lanes
returns-clause-lanes c = length-chunk c.args.at 64 c.args.bytes.now c.requires

pub returns-clause-bytes : goal.returns-clause-bytes
returns-clause-bytes c = below_from_Fits w8 _ (chunk-fits w8 c.args.at 64 c.args.bytes.now c.type_inv.bytes)
