use Rattle.std.proofs.Common.{◌∙◌}
use Rattle.stripe_cache.proofs.Views.{held-is}
use Rattle.stripe_cache.proofs.cache.Cache.holds.Goals as goal

pub returns-clause-held : goal.returns-clause-held
returns-clause-held c =
    c.contains.ensures ∙ held-is c.args.side c.args.row c.of.result c.self.inside.rows.entries c.self.inside.rows.cap c.args.self.now c.of.ensures c.self.view_is
