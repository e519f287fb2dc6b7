use Rattle.script_words.proofs.SectorBlocks.{same_by_mask}
use Rattle.script_words.proofs.sector_bytes.is_same.Goals as goal

pub returns : goal.returns
returns c = same_by_mask c.args.left c.args.right c.fits-left.0 c.fits-right.0
