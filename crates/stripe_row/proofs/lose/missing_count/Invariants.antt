use Rattle.std.proofs.Common.{◌≡◌}
use Rattle.raid_parity_simd.specs.raid_types_Search.{count_below}
use Rattle.stripe_row.specs.Rows.{reading_of, is_missing}
use Rattle.stripe_row.proofs.lose.missing_count.Given as goal

abbrev pub invariant-loop-role : goal.invariant-loop-role
invariant-loop-role l = l.count ≡ count_below l.role (is_missing (reading_of l.members))
