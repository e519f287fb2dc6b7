use Rattle.std.proofs.Common.{ℕ, ◌∙◌, ap}
use Rattle.history_append.specs.Losing.{role_losses, spare_losses, losses_of}
use Rattle.history_append.proofs.LosingLaws.{entered-more, entered-none, no-losses}
use Rattle.history_append.proofs.losses.append_losses.Goals as goal

pub returns-then-spares-eq0-clause-items : goal.returns-then-spares-eq0-clause-items
returns-then-spares-eq0-clause-items c =
    entered-none c.args.who c.args.end c.args.epoch.now.entries.items (losses_of c.args.roles c.args.spares)
    (ap (λ (n : ℕ). losses_of n c.args.spares) c.if-roles-eq0.true ∙ ap (losses_of 0) c.if-spares-eq0.true ∙ no-losses)

pub returns-clause-items : goal.returns-clause-items
returns-clause-items c =
    entered-more c.args.who c.args.end c.args.epoch.now.entries.items c.enter_roles.new.epoch.entries.items c.enter_spares.new.epoch.entries.items
    (role_losses c.args.roles 16) (spare_losses c.args.spares 32) c.enter_roles.ensures.items c.enter_spares.ensures.items
