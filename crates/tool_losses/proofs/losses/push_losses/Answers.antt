use Rattle.std.proofs.Common.{◌++◌, ap, ◌∙◌}
use Rattle.std.specs.Option.{option_copied}
use Rattle.history.specs.declared.events.Entry.{Entry}
use Rattle.tool_losses.specs.Losses.{loss_line}
use Rattle.tool_losses.proofs.Told.{told_more}
use Rattle.tool_losses.proofs.losses.push_losses.Goals as goal

pub loop-at-preserved : goal.loop-at-preserved
loop-at-preserved c =
    c.in_ok-push_loss.ensures ∙ ap (λ l. l ++ loss_line c.args.slots.now (option_copied c.args.newest) c.get.result.now.event) c.loop-at.invariant
    ∙ told_more (λ (entry : Entry). loss_line c.args.slots.now (option_copied c.args.newest) entry.event) c.args.into.now.items c.args.entries.now.items c.loop-at.at c.get.result.now c.get.ensures
