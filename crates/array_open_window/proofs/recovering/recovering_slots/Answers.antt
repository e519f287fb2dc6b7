use Rattle.std.proofs.Common.{sym, ◌∙◌, ap}
use Rattle.array_reshaping_state.specs.sb_specs_Reading.{holder}
use Rattle.array_open_window.proofs.recovering.recovering_slots.Goals as goal

pub with-slots-requires : goal.with-slots-requires
with-slots-requires c = c.requires.small c.loop-role.role c.in-Recovering.slot (ap holder (sym c.get.ensures ∙ c.in-Recovering.is))
