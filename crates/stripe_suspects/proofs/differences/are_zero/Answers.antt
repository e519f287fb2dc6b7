use Rattle.std.proofs.Common.{get_or}
use Rattle.stripe_suspects.proofs.Zeros.{no-bytes, one-more}
use Rattle.stripe_suspects.proofs.differences.are_zero.Goals as goal

pub loop-at-init : goal.loop-at-init
loop-at-init c = no-bytes (λ k. get_or c.args.p_difference.now k 0) (λ k. get_or c.args.q_difference.now k 0)

pub loop-at-preserved : goal.loop-at-preserved
loop-at-preserved c = one-more c.loop-at.all c.loop-at.at (λ k. get_or c.args.p_difference.now k 0) (λ k. get_or c.args.q_difference.now k 0) c.loop-at.invariant
