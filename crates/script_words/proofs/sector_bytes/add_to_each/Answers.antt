use Rattle.script_words.proofs.SectorBlocks.{added-len, added_at}
use Rattle.script_words.proofs.sector_bytes.add_to_each.Goals as goal

pub returns-clause-lanes : goal.returns-clause-lanes
returns-clause-lanes c = added-len c.args.block c.args.more c.fits-block.0

pub returns-clause-each : goal.returns-clause-each
returns-clause-each c i lt = added_at c.args.block c.args.more i c.fits-block.0 lt
