use Rattle.array_reshaping_state.proofs.PartLaws.{some-met, none-met}
use Rattle.array_reshaping_state.proofs.windows.meets.Goals as goal

pub returns-clause-yes : goal.returns-clause-yes
returns-clause-yes c = λ is. some-met c.args.span c.args.from c.args.to c.part_in-part.result c.part_in-part.ensures.sectors is

pub returns-clause-no : goal.returns-clause-no
returns-clause-no c = λ is. none-met c.args.span c.args.from c.args.to c.part_in-part.result c.part_in-part.ensures.sectors is
