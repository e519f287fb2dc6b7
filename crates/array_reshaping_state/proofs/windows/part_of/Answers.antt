use Rattle.array_reshaping_state.proofs.PartLaws.{empty-part, none-apart, part-is}
use Rattle.std.proofs.Common.{Some}
use Rattle.array_reshaping_state.proofs.windows.part_of.Goals as goal

pub returns-then-hi-lo-clause-sectors : goal.returns-then-hi-lo-clause-sectors
returns-then-hi-lo-clause-sectors c = λ x. empty-part (Some c.args.span.now) c.args.from c.args.to x
    (none-apart c.args.span.now c.args.from c.args.to c.max-lo.result c.min-hi.result c.max-lo.ensures c.min-hi.ensures c.if-hi-lo.true x)

pub returns-clause-sectors : goal.returns-clause-sectors
returns-clause-sectors c = λ x. part-is c.args.span.now c.args.from c.args.to c.max-lo.result c.min-hi.result c.max-lo.ensures c.min-hi.ensures x
