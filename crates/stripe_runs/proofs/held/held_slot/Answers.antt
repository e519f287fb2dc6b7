use Rattle.std.proofs.Common.{sym, ap, ◌∙◌}
use Rattle.stripe_row.specs.sb_specs_Reading.{holder}
use Rattle.stripe_runs.proofs.held.held_slot.Goals as goal

pub rows_recovered-requires : goal.rows_recovered-requires
rows_recovered-requires c = c.requires.small c.in-Recovering.slot (ap holder (sym c.get.ensures ∙ c.in-Recovering.is))
