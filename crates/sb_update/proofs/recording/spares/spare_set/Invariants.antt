use Rattle.std.proofs.Common.{◌≡◌, ℕ, not, ◌&&◌, nat_lt}
use Rattle.sb_specs.specs.raid_types_Shapes.{has_slot}
use Rattle.sb_specs.specs.Update.{is_planned_spare, give_of}
use Rattle.sb_update.proofs.recording.spares.spare_set.Given as goal

-- those before this slot are in the set
abbrev pub invariant-loop-slot : goal.invariant-loop-slot
invariant-loop-slot l =
    (s : ℕ) → has_slot l.spares s ≡ (nat_lt s l.slot && (not (has_slot l.members.lost s) && is_planned_spare l.members.spares l.change.added (give_of l.change.gives s) s))
