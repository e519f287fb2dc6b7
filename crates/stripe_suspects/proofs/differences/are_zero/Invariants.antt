use Rattle.std.proofs.Common.{get_or}
use Rattle.stripe_suspects.proofs.Zeros.{IsUnion}
use Rattle.stripe_suspects.proofs.differences.are_zero.Given as goal

abbrev pub invariant-loop-at : goal.invariant-loop-at
invariant-loop-at l = IsUnion l.all l.at (λ k. get_or l.p_difference k 0) (λ k. get_or l.q_difference k 0)
