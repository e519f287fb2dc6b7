use Rattle.std.proofs.Common.{◌≡◌, ◌+◌, ◌&&◌, ℕ, not, nat_lt}
use Rattle.sb_safe_updates.specs.raid_types_Shapes.{has_slot}
use Rattle.sb_safe_updates.specs.raid_types_Search.{count_below}
use Rattle.sb_safe_updates.specs.sb_specs_Reads.{has_spare}
use Rattle.reshape_sb_updates.specs.Beginning.{new_role}
use Rattle.reshape_begin_end.proofs.beginning.idle_spares.Given as goal

-- those of the slots before this one that are idle are in the set, and the next new role is the one of its number
abbrev pub invariant-loop-slot : goal.invariant-loop-slot
invariant-loop-slot l =
    (l.role ≡ l.first + count_below l.slot (has_spare l.spares))
    × ((s : ℕ) → has_slot l.idle s ≡ (nat_lt s l.slot && (has_spare l.spares s && not (nat_lt (new_role l.spares l.first s) l.disks))))
