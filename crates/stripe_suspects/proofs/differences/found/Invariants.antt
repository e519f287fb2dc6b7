use Rattle.std.proofs.Common.{ℕ, ◌<◌, slice_index}
use Rattle.stripe_suspects.specs.Rule.{Explains}
use Rattle.stripe_suspects.proofs.differences.found.Given as goal

abbrev pub invariant-loop-role : goal.invariant-loop-role
invariant-loop-role l = (r : ℕ) → r < l.role → Explains l.roles l.q r (slice_index l.p_difference) (slice_index l.q_difference) → ⊥
