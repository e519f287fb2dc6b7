use Rattle.std.proofs.Common.{◌+◌, ◌-◌, ℕ, ap, sym, ◌∙◌, arith}
use Rattle.std.proofs.Math.Nat.{div-le_self}
use Rattle.reshape_request.specs.raid_types_the_Shape.{Shape}
use Rattle.stripe_region_write.proofs.array_members_Fit.{fit-short}
use Rattle.stripe_region_resync.specs.Mends.{high_shape, high_stripe}
use Rattle.stripe_region_write.proofs.Sides.{high-few}
use Rattle.stripe_region_resync.proofs.StripeLaws.{stripe-at, behind-low, behind-high}
use Rattle.stripe_region_resync.proofs.stripes.stripe_after.Goals as goal

pub returns-then-mended-low : goal.returns-then-mended-low
returns-then-mended-low c =
    let newest = c.args.members.now.newest in
    let low = c.low_stripes-low.ensures.value in
    let below = c.if-mended-low.true in
    ap (λ (s : Shape). stripe-at s c.args.mended) c.low_shape.ensures ∙ sym (behind-low newest c.args.mended (omega (arith, low, below)))

pub overflow_add-result : goal.overflow_add-result
overflow_add-result c =
    let newest = c.args.members.now.newest in
    let first = c.high_stripe.ensures in
    let few = high-few newest c.requires.fit in
    let low = c.low_stripes-low.ensures.value in
    let less = div-le_self newest.size (high_shape newest).chunk in
    let size = fit-short newest c.requires.fit in
    omega (arith, first, few, low, less, size, c.requires.mended)

pub returns : goal.returns
returns c =
    let newest = c.args.members.now.newest in
    let low = c.low_stripes-low.ensures.value in
    let from = c.if-mended-low.false in
    ap (λ (s : Shape). stripe-at s (c.high_stripe.result + (c.args.mended - c.low_stripes-low.result))) c.high_shape.ensures
    ∙ ap (λ (n : ℕ). stripe-at (high_shape newest) (n + (c.args.mended - c.low_stripes-low.result))) c.high_stripe.ensures
    ∙ ap (λ (n : ℕ). stripe-at (high_shape newest) (high_stripe newest + (c.args.mended - n))) low
    ∙ sym (behind-high newest c.args.mended (omega (arith, low, from)))
