use Rattle.std.proofs.Common.{arith}
use Rattle.reshape_geometry.proofs.Valid.{bounded_pair}
use Rattle.reshape_geometry.proofs.windows.is_critical.Goals as goal

pub rows-written-requires-clause-inside : goal.rows-written-requires-clause-inside
rows-written-requires-clause-inside c =
    let b = bounded_pair c.args.old.now c.args.new.now c.args.size c.requires.in_force in omega (arith, b.short_list, c.requires.inside)

pub rows-live-requires-clause-inside : goal.rows-live-requires-clause-inside
rows-live-requires-clause-inside c =
    let b = bounded_pair c.args.old.now c.args.new.now c.args.size c.requires.in_force in omega (arith, b.short_list, c.requires.inside)
