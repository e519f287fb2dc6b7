use Rattle.std.proofs.Common.{◌≡◌, ◌*◌, length, ◌∙◌, arith}
use Rattle.stripe_row.proofs.RowBytes.{on_ok}
use Rattle.stripe_runs.proofs.PartLaws.{plain, sector-part_here, sector-part_other}
use Rattle.stripe_runs.proofs.sectors.read_sectors.Goals as goal

pub returns-clause-here : goal.returns-clause-here
returns-clause-here g c =
    let size : length c.read.new.into ≡ 512 * c.args.count = omega (arith, c.read.auto.into, c.requires.room) in
    on_ok c.read.result (λ is told j lt.
    sector-part_here c.args.buffer.now c.read.new.into c.args.first c.args.count c.requires.room size j lt ∙ plain c.read.new.into j ∙ is told j (omega (arith, size, lt))) c.read.ensures.ok

pub returns-clause-others : goal.returns-clause-others
returns-clause-others g c = λ i out.
    sector-part_other c.args.buffer.now c.read.new.into c.args.first c.args.count c.requires.room (omega (arith, c.read.auto.into, c.requires.room)) i out
