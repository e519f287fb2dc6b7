use Rattle.std.proofs.Common.{◌%◌, ◌<◌, ◌∙◌, arith}
use Rattle.raid_gf256.proofs.Entries.{powers-at, power-mod}
use Rattle.raid_gf256.proofs.pow_g.Goals as goal

pub returns : goal.returns
returns c =
    let h : c.args.k % 255 < 255 = omega arith in
    powers-at (c.args.k % 255) h ∙ power-mod c.args.k
