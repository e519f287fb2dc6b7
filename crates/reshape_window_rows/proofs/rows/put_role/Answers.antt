use Rattle.std.proofs.Common.{◌∙◌}
use Rattle.reshape_begin_end.proofs.stripe_list_FullLaws.{sector_there}
use Rattle.reshape_window_rows.proofs.RowLaws.{copied_here, zero_here}
use Rattle.reshape_window_rows.proofs.rows.put_role.Goals as goal

pub returns-in_default-clause-full : goal.returns-in_default-clause-full
returns-in_default-clause-full c = λ tail list own copied here.
    let found = sector_there c.args.shape.now c.args.role c.args.row c.requires.shape c.requires.role here in
    absurd (c.in_default.ensures.stands found.0 found.1)

pub returns-then-contains-clause-full : goal.returns-then-contains-clause-full
returns-then-contains-clause-full c = λ tail list own copied here.
    c.copy_sector.ensures.here ∙ copied_here c.args.shape.now c.requires.shape c.args.span.now c.args.buffer.now tail list c.args.role c.args.row c.in-Some.x copied c.in-Some.ensures.stands (c.contains.ensures.inside c.if-contains.true)

pub returns-else-contains-clause-full : goal.returns-else-contains-clause-full
returns-else-contains-clause-full c = λ tail list own copied here.
    c.clear_sector.ensures.here ∙ zero_here c.args.shape.now c.requires.shape c.args.span.now c.args.buffer.now tail list c.args.role c.args.row c.in-Some.x own copied c.in-Some.ensures.stands (c.contains.ensures.outside c.if-contains.false)
