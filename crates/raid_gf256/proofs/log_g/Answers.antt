use Rattle.std.proofs.Common.{◌<◌, arith}
use Rattle.raid_gf256.proofs.Entries.{logs-at}
use Rattle.raid_gf256.proofs.log_g.Goals as goal

pub returns-clause-below : goal.returns-clause-below
returns-clause-below c =
    let h : c.args.a < 256 = omega arith in
    (logs-at c.args.a h c.requires).below

pub returns-clause-value : goal.returns-clause-value
returns-clause-value c =
    let h : c.args.a < 256 = omega arith in
    (logs-at c.args.a h c.requires).value
