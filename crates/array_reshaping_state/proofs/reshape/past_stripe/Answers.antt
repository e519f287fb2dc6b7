use Rattle.std.proofs.Common.{◌<◌, ℕ, ap, ◌∙◌, subst, arith}
use Rattle.array_call_specs.specs.raid_types_Shapes.{stripe_sectors}
use Rattle.array_call_specs.specs.raid_types_the_Shape.{Shape}
use Rattle.reshape_progress.proofs.reshape_geometry_ClosedForms.{rounded_up_at, ceiling_below}
use Rattle.reshape_progress.specs.sb_specs_Reading.{final_shape, list_length}
use Rattle.array_reshaping_state.proofs.ReshapeLaws.{valid-by, list-short}
use Rattle.array_reshaping_state.proofs.reshape.past_stripe.Goals as goal

pub stripe_sectors-requires : goal.stripe_sectors-requires
stripe_sectors-requires c = valid-by c.args.members.now.newest c.requires.fit c.final_in.result c.final_in.ensures

pub returns-clause-value : goal.returns-clause-value
returns-clause-value c =
    let newest = c.args.members.now.newest in
    rounded_up_at c.div_ceil.result c.list_sectors.result c.stripe_sectors.result (list_length newest) (stripe_sectors (final_shape newest)) c.stripe_sectors.ensures.positive c.list_sectors.ensures.length
    (c.stripe_sectors.ensures.value ∙ ap (λ (s : Shape). stripe_sectors s) c.final_in.ensures) c.div_ceil.ensures

pub returns-clause-short : goal.returns-clause-short
returns-clause-short c =
    let newest = c.args.members.now.newest in
    let k = stripe_sectors (final_shape newest) in
    let same = c.stripe_sectors.ensures.value ∙ ap (λ (s : Shape). stripe_sectors s) c.final_in.ensures in
    let value = rounded_up_at c.div_ceil.result c.list_sectors.result c.stripe_sectors.result (list_length newest) k c.stripe_sectors.ensures.positive c.list_sectors.ensures.length same c.div_ceil.ensures in
    let low = ceiling_below (list_length newest) k (subst (λ (n : ℕ). 0 < n) same c.stripe_sectors.ensures.positive) in
    let short = list-short newest c.requires.fit in
    omega (arith, value, low, short)
