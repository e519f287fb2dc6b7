use Rattle.std.proofs.Common.{◌≡◌, ℕ, ◌&&◌, nat_lt}
use Rattle.sb_specs.specs.raid_types_Shapes.{has_slot}
use Rattle.sb_specs.specs.Outcome.{is_in_update}
use Rattle.sb_update.proofs.recording.live.live_slots.Given as goal

-- those before this slot are in the set
abbrev pub invariant-loop-slot : goal.invariant-loop-slot
invariant-loop-slot l = (s : ℕ) → has_slot l.live s ≡ (nat_lt s l.slot && is_in_update l.members l.change s)
