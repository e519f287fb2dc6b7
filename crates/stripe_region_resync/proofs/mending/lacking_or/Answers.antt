use Rattle.std.proofs.Common.{sym, ◌∙◌}
use Rattle.stripe_region_resync.proofs.RefusalLaws.{told-lacking, told-found}
use Rattle.stripe_region_resync.proofs.mending.lacking_or.Goals as goal

pub too_many-refusal-requires-clause-shapes : goal.too_many-refusal-requires-clause-shapes
too_many-refusal-requires-clause-shapes c = c.requires.fit.valid

pub returns-then-is_some : goal.returns-then-is_some
returns-then-is_some c = told-lacking c.args.members.now c.too_many-refusal.result c.args.found (sym c.is_some.ensures ∙ c.if-is_some.true) c.too_many-refusal.ensures

pub returns : goal.returns
returns c = told-found c.args.members.now c.too_many-refusal.result c.args.found (sym c.is_some.ensures ∙ c.if-is_some.false) c.too_many-refusal.ensures
