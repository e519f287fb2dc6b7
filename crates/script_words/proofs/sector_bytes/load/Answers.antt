use Rattle.std.proofs.lemmas.Simd.{length-chunk}
use Rattle.script_words.proofs.sector_bytes.load.Goals as goal

pub returns-clause-lanes : goal.returns-clause-lanes
returns-clause-lanes c = length-chunk c.args.at 64 c.args.bytes.now c.requires
