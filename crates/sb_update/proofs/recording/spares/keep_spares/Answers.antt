use Rattle.std.proofs.Common.{List, ℕ, ◌∙◌, ap}
use Rattle.sb_specs.specs.raid_types_Shapes.{has_slot}
use Rattle.sb_specs.proofs.SlotSets.{slots-same}
use Rattle.sb_update.proofs.recording.spares.keep_spares.Goals as goal

pub returns : goal.returns
returns c = ap (λ (l : List ℕ). record c.args.members.now { spares = l })
    (c.put_slots.ensures ∙ slots-same 32 (has_slot c.spare_set-spares.result) _ c.spare_set-spares.ensures)
