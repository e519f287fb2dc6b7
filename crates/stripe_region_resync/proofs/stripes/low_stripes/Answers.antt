use Rattle.std.proofs.Common.{ap, ◌∙◌, arith}
use Rattle.reshape_request.specs.raid_types_Shapes.{stripe_sectors}
use Rattle.reshape_request.specs.raid_types_the_Shape.{Shape}
use Rattle.reshape_request.proofs.reshape_geometry_ClosedForms.{rounded_up_at, ceiling_below}
use Rattle.stripe_region_resync.specs.Mends.{low_end, low_shape}
use Rattle.stripe_region_write.proofs.Sides.{low-valid-by, low-some, low-fits, list-few}
use Rattle.stripe_region_resync.proofs.stripes.low_stripes.Goals as goal

pub stripe_sectors-requires : goal.stripe_sectors-requires
stripe_sectors-requires c = low-valid-by c.args.members.now.newest c.requires.fit c.low_shape.result c.low_shape.ensures

pub returns-clause-value : goal.returns-clause-value
returns-clause-value c =
    let newest = c.args.members.now.newest in
    rounded_up_at c.div_ceil.result c.low_end.result c.stripe_sectors.result (low_end newest) (stripe_sectors (low_shape newest)) c.stripe_sectors.ensures.positive c.low_end.ensures
    (c.stripe_sectors.ensures.value ∙ ap (λ (s : Shape). stripe_sectors s) c.low_shape.ensures) c.div_ceil.ensures

pub returns-clause-short : goal.returns-clause-short
returns-clause-short c =
    let newest = c.args.members.now.newest in
    let same = c.stripe_sectors.ensures.value ∙ ap (λ (s : Shape). stripe_sectors s) c.low_shape.ensures in
    let value = rounded_up_at c.div_ceil.result c.low_end.result c.stripe_sectors.result (low_end newest) (stripe_sectors (low_shape newest)) c.stripe_sectors.ensures.positive c.low_end.ensures same c.div_ceil.ensures in
    let low = ceiling_below (low_end newest) (stripe_sectors (low_shape newest)) (low-some newest c.requires.fit) in
    let fits = low-fits newest c.requires.fit in
    let short = list-few newest c.requires.fit in
    omega (arith, value, low, fits, short)
