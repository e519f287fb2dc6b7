use Rattle.std.proofs.Common.{◌≡◌, ◌+◌, ◌-◌, ◌/◌, ℕ, ap, ◌∙◌, arith}
use Rattle.std.proofs.Math.Nat.{div-le_self}
use Rattle.reshape_request.specs.raid_types_the_Shape.{Shape}
use Rattle.reshape_request.specs.sb_codec_the_Sb.{Sb}
use Rattle.stripe_region_write.proofs.array_members_Fit.{fit-short}
use Rattle.stripe_region_resync.specs.Mends.{high_shape, low_stripes}
use Rattle.stripe_region_write.proofs.Sides.{high-few}
use Rattle.stripe_region_resync.proofs.stripes.resync_stripes.Goals as goal

-- so many stripes of the shape
stripes-are : (newest : Sb) (chunk : ℕ) (shape : Shape) → chunk ≡ shape.chunk → shape ≡ high_shape newest → newest.size / chunk ≡ newest.size / (high_shape newest).chunk
stripes-are newest chunk shape a b = ap (λ (n : ℕ). newest.size / n) (a ∙ ap (λ (s : Shape). s.chunk) b)

pub overflow_sub-high : goal.overflow_sub-high
overflow_sub-high c =
    let newest = c.args.members.now.newest in
    let all = stripes-are newest c.from.result c.high_shape.result c.from.ensures c.high_shape.ensures in
    let few = high-few newest c.requires.fit in
    let first = c.high_stripe.ensures in
    omega (arith, all, few, first)

pub overflow_add-result : goal.overflow_add-result
overflow_add-result c =
    let newest = c.args.members.now.newest in
    let all = stripes-are newest c.from.result c.high_shape.result c.from.ensures c.high_shape.ensures in
    let less = div-le_self newest.size (high_shape newest).chunk in
    let size = fit-short newest c.requires.fit in
    let short = c.low_stripes.ensures.short in
    omega (arith, all, less, size, short)

pub returns-clause-value : goal.returns-clause-value
returns-clause-value c =
    let newest = c.args.members.now.newest in
    let all = stripes-are newest c.from.result c.high_shape.result c.from.ensures c.high_shape.ensures in
    ap (λ (n : ℕ). n + (newest.size / c.from.result - c.high_stripe.result)) c.low_stripes.ensures.value
    ∙ ap (λ (n : ℕ). low_stripes newest + (n - c.high_stripe.result)) all
    ∙ ap (λ (n : ℕ). low_stripes newest + (newest.size / (high_shape newest).chunk - n)) c.high_stripe.ensures

pub returns-clause-short : goal.returns-clause-short
returns-clause-short c =
    let newest = c.args.members.now.newest in
    let all = stripes-are newest c.from.result c.high_shape.result c.from.ensures c.high_shape.ensures in
    let less = div-le_self newest.size (high_shape newest).chunk in
    let size = fit-short newest c.requires.fit in
    let short = c.low_stripes.ensures.short in
    omega (arith, all, less, size, short)
