use Rattle.std.proofs.Common.{◌≡◌, ◌≤◌, length}
use Rattle.sb_specs.specs.raid_types_Shapes.{has_slot}
use Rattle.sb_specs.specs.Outcome.{slots_below}
use Rattle.sb_update.proofs.recording.spares.put_slots.Given as goal

-- those before this slot are there
abbrev pub invariant-loop-slot : goal.invariant-loop-slot
invariant-loop-slot l = record {
  put : l.slots ≡ slots_below l.slot (has_slot l.set);
  few : length l.slots ≤ l.slot;
}
