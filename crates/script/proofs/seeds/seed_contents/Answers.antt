use Rattle.std.proofs.Common.{◌≡◌, ◌+◌, ◌%◌, arith, ◌∙◌, refl}
use Rattle.script.proofs.SeedLaws.{headed_sector}
use Rattle.script.proofs.seeds.seed_contents.Goals as goal

pub returns : goal.returns
returns c =
    headed_sector c.counted_sector-sector.result c.copy_from_slice.new.self c.copy_from_slice-2.new.self c.args.seed c.args.x _ (omega (arith, c.from.ensures))
    (omega arith) c.counted_sector-sector.ensures
    (c.copy_from_slice.ensures.after ∙ c.to_le_bytes.ensures) (c.copy_from_slice-2.ensures.after ∙ c.to_le_bytes-2.ensures)
