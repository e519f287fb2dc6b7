use Rattle.std.proofs.Common.{◌==◌, sym, ap, ◌∙◌}
use Rattle.stripe_cache.proofs.Views.{held-count}
use Rattle.stripe_cache.proofs.cache.Cache.is_empty.Goals as goal

pub returns-clause-empty : goal.returns-clause-empty
returns-clause-empty c =
    c.is_empty.ensures ∙ ap (λ n. n == 0) (sym (held-count c.self.inside.rows.entries c.self.inside.rows.cap c.args.self.now c.self.view_is))
