use Rattle.std.proofs.Common.{◌≡◌}
use Rattle.stripe_io.specs.raid_types_Search.{count_below}
use Rattle.sb_add_spare.specs.sb_specs_Reads.{has_spare}
use Rattle.array_state.proofs.asking.spare_count.Given as goal

-- those before this one are counted
abbrev pub invariant-loop-slot : goal.invariant-loop-slot
invariant-loop-slot l = l.count ≡ count_below l.slot (has_spare l.members.spares)
