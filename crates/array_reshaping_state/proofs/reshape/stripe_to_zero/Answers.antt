use Rattle.std.proofs.Common.{◌≤◌, ◌<◌, ◌+◌, ◌/◌, ℕ, ap, sym, subst, arith}
use Rattle.std.proofs.Math.Nat.{div-le_self}
use Rattle.reshape_progress.specs.sb_specs_Reading.{is_backward, final_shape}
use Rattle.reshape_progress.proofs.array_members_Fit.{fit-short}
use Rattle.reshape_progress.specs.Course.{past_stripe}
use Rattle.array_reshaping_state.proofs.ReshapeLaws.{zero-of}
use Rattle.array_reshaping_state.proofs.reshape.stripe_to_zero.Goals as goal

pub overflow_add-result : goal.overflow_add-result
overflow_add-result c =
    let newest = c.args.members.now.newest in
    let of = zero-of (is_backward newest) (newest.size / (final_shape newest).chunk) (past_stripe newest) c.args.zeroed c.requires.zeroed in
    let under = of.1 in
    let value = c.past_stripe.ensures.value in
    let less = div-le_self newest.size (final_shape newest).chunk in
    let short = fit-short newest c.requires.fit in
    omega (arith, under, value, less, short)

pub returns-clause-value : goal.returns-clause-value
returns-clause-value c = ap (λ (n : ℕ). n + c.args.zeroed) c.past_stripe.ensures.value

pub returns-clause-stripe : goal.returns-clause-stripe
returns-clause-stripe c =
    let newest = c.args.members.now.newest in
    subst (λ (n : ℕ). (past_stripe newest ≤ n + c.args.zeroed) × (n + c.args.zeroed < newest.size / (final_shape newest).chunk)) (sym c.past_stripe.ensures.value)
    (zero-of (is_backward newest) (newest.size / (final_shape newest).chunk) (past_stripe newest) c.args.zeroed c.requires.zeroed)
