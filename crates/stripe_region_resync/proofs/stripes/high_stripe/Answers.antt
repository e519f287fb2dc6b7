use Rattle.std.proofs.Common.{◌/◌, ℕ, ap, ◌∙◌}
use Rattle.reshape_request.specs.raid_types_Shapes.{stripe_sectors}
use Rattle.reshape_request.specs.raid_types_the_Shape.{Shape}
use Rattle.stripe_region_resync.specs.Mends.{low_end}
use Rattle.stripe_region_write.proofs.Sides.{high-valid-by}
use Rattle.stripe_region_resync.proofs.stripes.high_stripe.Goals as goal

pub stripe_sectors-requires : goal.stripe_sectors-requires
stripe_sectors-requires c = high-valid-by c.args.members.now.newest c.requires.fit c.high_shape.result c.high_shape.ensures

pub returns : goal.returns
returns c =
    ap (λ (n : ℕ). n / c.stripe_sectors.result) c.low_end.ensures
    ∙ ap (λ (n : ℕ). low_end c.args.members.now.newest / n) (c.stripe_sectors.ensures.value ∙ ap (λ (s : Shape). stripe_sectors s) c.high_shape.ensures)
