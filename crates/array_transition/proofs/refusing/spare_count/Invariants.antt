use Rattle.std.proofs.Common.{◌≡◌}
use Rattle.array_reshaping_steps.specs.raid_types_Search.{count_below}
use Rattle.array_reshaping_steps.specs.sb_specs_Reads.{has_spare}
use Rattle.array_transition.proofs.refusing.spare_count.Given as goal

-- those before this one are counted
abbrev pub invariant-loop-slot : goal.invariant-loop-slot
invariant-loop-slot l = l.count ≡ count_below l.slot (has_spare l.members.spares)
