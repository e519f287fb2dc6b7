use Rattle.std.proofs.Common.{◌≡◌, ◌<◌, ℕ, length}
use Rattle.sb_update.specs.sb_specs_Update.{give_of}
use Rattle.reshape_sb_updates.specs.Ending.{dropped_give}
use Rattle.reshape_sb_updates.proofs.ending.dropped_gives.Given as goal

-- the slots before this one have what they get
abbrev pub invariant-loop-slot : goal.invariant-loop-slot
invariant-loop-slot l = (length l.gives ≡ 32) × ((s : ℕ) → s < l.slot → give_of l.gives s ≡ dropped_give l.roles l.disks s)
