use Rattle.std.proofs.Common.{◌≡◌, ◌/◌, ◌+◌, ◌<◌, ◌≤◌, ℕ, sym, ◌∙◌, ap, subst, arith}
use Rattle.array_call_specs.specs.raid_types_Shapes.{stripe_sectors}
use Rattle.array_call_specs.specs.raid_types_the_Shape.{Shape}
use Rattle.reshape_progress.specs.reshape_geometry_Geometry.{ceiling}
use Rattle.reshape_progress.proofs.reshape_geometry_ClosedForms.{ceiling_below}
use Rattle.reshape_progress.specs.sb_specs_Reading.{final_shape}
use Rattle.reshape_progress.proofs.crash_views_Stands.{window-inside}
use Rattle.array_reshaping_state.proofs.ReshapeLaws.{valid-by, list-short, copy-of}
use Rattle.array_reshaping_state.proofs.reshape.stripe_to_copy.Goals as goal

pub stripe_sectors-requires : goal.stripe_sectors-requires
stripe_sectors-requires c = valid-by c.args.members.now.newest c.requires.fit c.final_in.result c.final_in.ensures

pub overflow_add-result : goal.overflow_add-result
overflow_add-result c =
    let newest = c.args.members.now.newest in
    let span = c.args.span.now in
    let k = stripe_sectors (final_shape newest) in
    let same : c.stripe_sectors.result ≡ k = c.stripe_sectors.ensures.value ∙ ap (λ (s : Shape). stripe_sectors s) c.final_in.ensures in
    let first : span.lo / c.stripe_sectors.result ≡ span.lo / k = ap (λ (n : ℕ). span.lo / n) same in
    let of : span.lo / k + c.args.copied < ceiling span.hi k = (copy-of (span.lo / k) (ceiling span.hi k) c.args.copied c.requires.copied).1 in
    let some : 0 < k = subst (λ (n : ℕ). 0 < n) same c.stripe_sectors.ensures.positive in
    let low : ceiling span.hi k ≤ span.hi = ceiling_below span.hi k some in
    let inside = window-inside newest c.requires.fit span c.requires.next in
    let short = list-short newest c.requires.fit in
    omega (arith, first, of, low, inside, short)

pub returns-clause-value : goal.returns-clause-value
returns-clause-value c =
    let newest = c.args.members.now.newest in
    let span = c.args.span.now in
    ap (λ (n : ℕ). span.lo / n + c.args.copied) (c.stripe_sectors.ensures.value ∙ ap (λ (s : Shape). stripe_sectors s) c.final_in.ensures)

pub returns-clause-stripe : goal.returns-clause-stripe
returns-clause-stripe c =
    let newest = c.args.members.now.newest in
    let span = c.args.span.now in
    let k = stripe_sectors (final_shape newest) in
    let first : span.lo / c.stripe_sectors.result ≡ span.lo / k = ap (λ (n : ℕ). span.lo / n) (c.stripe_sectors.ensures.value ∙ ap (λ (s : Shape). stripe_sectors s) c.final_in.ensures) in
    subst (λ (n : ℕ). (span.lo / k ≤ n + c.args.copied) × (n + c.args.copied < ceiling span.hi k)) (sym first) (copy-of (span.lo / k) (ceiling span.hi k) c.args.copied c.requires.copied)
