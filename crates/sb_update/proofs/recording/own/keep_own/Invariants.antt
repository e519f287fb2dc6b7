use Rattle.sb_specs.specs.raid_types_Shapes.{has_slot}
use Rattle.sb_specs.proofs.StoredSlots.{Keeping}
use Rattle.sb_update.proofs.recording.own.keep_own.Given as goal

-- the slots before this one were kept
abbrev pub invariant-loop-slot : goal.invariant-loop-slot
invariant-loop-slot l = Keeping l.newest l.gives (has_slot l.left) l.initial.own l.own l.slot
