use Rattle.std.proofs.Common.{sym, ◌∙◌}
use Rattle.stripe_cache.specs.Rows.{is_meant}
use Rattle.stripe_cache.proofs.Views.{first-passes, first-later}
use Rattle.stripe_cache.proofs.cache.Cache.first.Goals as goal

pub returns-then-is_meant : goal.returns-then-is_meant
returns-then-is_meant c =
    first-passes (is_meant c.args.which) c.in-Some.key.now c.in-Some.held.now c.next.new.self c.loop-key.key-iterator _ c.in-Some.ensures.steps c.loop-key.invariant
    (sym c.is_meant.ensures ∙ c.if-is_meant.true)

pub loop-key-preserved : goal.loop-key-preserved
loop-key-preserved c =
    first-later (is_meant c.args.which) c.in-Some.key.now c.in-Some.held.now c.next.new.self c.loop-key.key-iterator _ c.in-Some.ensures.steps c.loop-key.invariant
    (sym c.is_meant.ensures ∙ c.if-is_meant.false)
