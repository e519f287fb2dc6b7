use Rattle.std.proofs.Common.{arith}
use Rattle.std.proofs.lemmas.List.{get_or_past}
use Rattle.sb_specs.specs.declared.change.Give.TheVariants.{Same}
use Rattle.test_openings.proofs.checks.know_the_end.Goals as goal

pub returns : goal.returns
returns c = λ s high. get_or_past c.args.gives.now s Same (omega (arith, high, c.told-gives))
