use Rattle.std.proofs.Common.{◌++◌, ap, ◌∙◌}
use Rattle.history.specs.declared.events.Entry.{Entry}
use Rattle.tool_losses.specs.Healths.{shown_lines}
use Rattle.tool_losses.proofs.Told.{told_more}
use Rattle.tool_losses.proofs.states.push_states.Goals as goal

pub loop-at-preserved : goal.loop-at-preserved
loop-at-preserved c =
    c.in_ok-push_shown.ensures ∙ ap (λ l. l ++ shown_lines c.get.result.now.event) c.loop-at.invariant
    ∙ told_more (λ (entry : Entry). shown_lines entry.event) c.args.into.now.items c.args.entries.now.items c.loop-at.at c.get.result.now c.get.ensures
