use Rattle.std.proofs.Common.{◌≡◌, ◌+◌, ◌<◌, ℕ, length}
use Rattle.sb_update.specs.raid_types_Search.{count_below}
use Rattle.sb_update.specs.sb_specs_Reads.{has_spare}
use Rattle.sb_update.specs.sb_specs_Update.{give_of}
use Rattle.reshape_sb_updates.specs.Beginning.{new_give}
use Rattle.reshape_sb_updates.proofs.beginning.new_gives.Given as goal

-- the slots before this one have what they get, and the next new role is the one of its number
abbrev pub invariant-loop-slot : goal.invariant-loop-slot
invariant-loop-slot l =
    (length l.gives ≡ 32) × (l.role ≡ l.first + count_below l.slot (has_spare l.spares)) × ((s : ℕ) → s < l.slot → give_of l.gives s ≡ new_give l.spares l.first l.disks s)
