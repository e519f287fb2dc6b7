use Rattle.std.proofs.Common.{◌≡◌}
use Rattle.stripe_io.specs.raid_types_Search.{count_below}
use Rattle.sb_add_spare.specs.stripe_row_Rows.{reading_of}
use Rattle.sb_add_spare.specs.array_members_Placed.{is_unassigned}
use Rattle.array_state.proofs.asking.vacant_count.Given as goal

-- those before this one are counted
abbrev pub invariant-loop-role : goal.invariant-loop-role
invariant-loop-role l = l.count ≡ count_below l.role (is_unassigned (reading_of l.members))
