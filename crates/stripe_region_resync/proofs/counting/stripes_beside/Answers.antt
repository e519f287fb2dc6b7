use Rattle.std.proofs.Common.{◌≡◌, ◌≤◌, ◌+◌, ◌-◌, ◌*◌, ◌/◌, ◌^◌, ℕ, true, refl, ap, arith}
use Rattle.std.proofs.Math.Nat.{div-le_self}
use Rattle.std.proofs.lemmas.Nat.{mul-le}
use Rattle.reshape_request.specs.raid_types_the_Shape.{Shape}
use Rattle.reshape_request.specs.raid_types_Shapes.{is_valid_shape, data_disks, stripe_sectors}
use Rattle.reshape_request.specs.reshape_geometry_Geometry.{ceiling}
use Rattle.reshape_request.proofs.reshape_geometry_ClosedForms.{rounded_up_at, ceiling_below}
use Rattle.reshape_request.proofs.reshape_geometry_Valid.{bounded}
use Rattle.stripe_region_resync.proofs.LeftLaws.{few-below}
use Rattle.stripe_region_resync.proofs.counting.stripes_beside.Goals as goal

-- the data of a shape is short
short : (high : Shape) → is_valid_shape high ≡ true → (size position : ℕ) → size ≤ 2 ^ 48 → position ≤ data_disks high * size → position ≤ 2 ^ 53
short high valid size position small within =
    let few = (bounded high valid).most_data in
    let all = mul-le (data_disks high) size 32 (2 ^ 48) few small in
    omega (arith, all, within)

-- and so are stripes of it
few-in : (low : Shape) → is_valid_shape low ≡ true → (position : ℕ) → ceiling position (stripe_sectors low) ≤ position
few-in low valid position = let some = (bounded low valid).some_stripe in ceiling_below position (stripe_sectors low) (omega (arith, some))

pub overflow_sub-above : goal.overflow_sub-above
overflow_sub-above c =
    let high = c.args.high.now in
    let few = few-below high c.requires.high c.args.size c.args.position c.requires.multiple c.requires.within in
    let chunk : c.args.size / c.from.result ≡ c.args.size / high.chunk = ap (λ (n : ℕ). c.args.size / n) c.from.ensures in
    let stripe : c.args.position / c.stripe_sectors.result ≡ c.args.position / stripe_sectors high = ap (λ (n : ℕ). c.args.position / n) c.stripe_sectors.ensures.value in
    omega (arith, few, chunk, stripe)

pub overflow_add-result : goal.overflow_add-result
overflow_add-result c =
    let low = c.args.low.now in
    let value = rounded_up_at c.div_ceil.result c.args.position c.stripe_sectors-2.result c.args.position (stripe_sectors low) c.stripe_sectors-2.ensures.positive refl c.stripe_sectors-2.ensures.value c.div_ceil.ensures in
    let few = few-in low c.requires.low c.args.position in
    let most = short c.args.high.now c.requires.high c.args.size c.args.position c.requires.size c.requires.within in
    let less = div-le_self c.args.size c.from.result in
    let size = c.requires.size in
    omega (arith, value, few, most, less, size)

pub returns-clause-value : goal.returns-clause-value
returns-clause-value c =
    let low = c.args.low.now in
    let high = c.args.high.now in
    let value = rounded_up_at c.div_ceil.result c.args.position c.stripe_sectors-2.result c.args.position (stripe_sectors low) c.stripe_sectors-2.ensures.positive refl c.stripe_sectors-2.ensures.value c.div_ceil.ensures in
    let chunk : c.args.size / c.from.result ≡ c.args.size / high.chunk = ap (λ (n : ℕ). c.args.size / n) c.from.ensures in
    let stripe : c.args.position / c.stripe_sectors.result ≡ c.args.position / stripe_sectors high = ap (λ (n : ℕ). c.args.position / n) c.stripe_sectors.ensures.value in
    λ i. value i + (chunk i - stripe i)

pub returns-clause-short : goal.returns-clause-short
returns-clause-short c =
    let low = c.args.low.now in
    let value = rounded_up_at c.div_ceil.result c.args.position c.stripe_sectors-2.result c.args.position (stripe_sectors low) c.stripe_sectors-2.ensures.positive refl c.stripe_sectors-2.ensures.value c.div_ceil.ensures in
    let few = few-in low c.requires.low c.args.position in
    let most = short c.args.high.now c.requires.high c.args.size c.args.position c.requires.size c.requires.within in
    let less = div-le_self c.args.size c.from.result in
    let size = c.requires.size in
    omega (arith, value, few, most, less, size)
