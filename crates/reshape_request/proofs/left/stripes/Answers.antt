use Rattle.std.proofs.Common.{◌≡◌, ℕ, ◌/◌, ap, arith}
use Rattle.history.specs.raid_types_Shapes.{stripe_sectors}
use Rattle.history.proofs.reshape_geometry_ClosedForms.{rounded_up}
use Rattle.reshape_request.proofs.left.stripes.Goals as goal

pub returns-clause-value : goal.returns-clause-value
returns-clause-value c =
    let high = rounded_up c.div_ceil.result c.args.span.now.hi c.stripe_sectors-stripe.result (stripe_sectors c.args.shape.now) c.stripe_sectors-stripe.ensures.positive c.stripe_sectors-stripe.ensures.value c.div_ceil.ensures in
    let low : c.args.span.now.lo / c.stripe_sectors-stripe.result ≡ c.args.span.now.lo / stripe_sectors c.args.shape.now = ap (λ (x : ℕ). c.args.span.now.lo / x) c.stripe_sectors-stripe.ensures.value in
    omega (arith, high, low)
