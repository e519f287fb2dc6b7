use Rattle.std.proofs.Common.{◌≡◌, ℕ, ◌<◌, get_or, true}
use Rattle.stripe_suspects.specs.Rule.{explains}
use Rattle.stripe_suspects.proofs.differences.explains_all.Given as goal

abbrev pub invariant-loop-at : goal.invariant-loop-at
invariant-loop-at l = (k : ℕ) → k < l.at → explains l.roles l.q l.role (get_or l.p_difference k 0) (get_or l.q_difference k 0) ≡ true
