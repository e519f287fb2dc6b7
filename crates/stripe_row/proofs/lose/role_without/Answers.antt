use Rattle.std.proofs.Common.{sym, ◌∙◌}
use Rattle.stripe_row.proofs.lose.role_without.Goals as goal

pub contains-requires : goal.contains-requires
contains-requires c = c.requires c.in-Some.slot (sym c.holder.ensures ∙ c.in-Some.is)
