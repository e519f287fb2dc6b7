use Rattle.std.proofs.Common.{[], ◌∷◌}
use Rattle.history_append.specs.Losing.{losses_of}
use Rattle.history_append.proofs.LosingLaws.{entered-more}
use Rattle.history_append.proofs.calls.append_after_losses.Goals as goal

pub returns-clause-items : goal.returns-clause-items
returns-clause-items c =
    entered-more c.args.who c.args.end c.args.epoch.now.entries.items c.append_losses.new.epoch.entries.items c.append_entry.new.epoch.entries.items
    (losses_of c.args.roles c.args.spares) (c.args.event ∷ []) c.append_losses.ensures.items c.append_entry.ensures.items
