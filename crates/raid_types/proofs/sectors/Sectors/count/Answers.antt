use Rattle.std.proofs.Common.{length, sym, ◌∙◌, ap}
use Rattle.raid_types.proofs.SectorLaws.{length-sectors_of}
use Rattle.raid_types.proofs.sectors.Sectors.count.Goals as goal

pub returns : goal.returns
returns c = let f = c.as_bytes.ensures.sectors in let l = length-sectors_of c.as_bytes.result.now in sym (ap length (sym f) ∙ l)
