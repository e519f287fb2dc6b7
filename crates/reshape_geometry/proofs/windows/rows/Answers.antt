use Rattle.std.proofs.Common.{◌≡◌, ℕ, ◌*◌, ◌/◌, ap, ◌∙◌, arith}
use Rattle.raid_types.specs.declared.places.Shape.{Shape}
use Rattle.raid_types.specs.declared.places.Span.{Span}
use Rattle.raid_types.specs.Shapes.{stripe_sectors}
use Rattle.reshape_geometry.specs.Geometry.{ceiling}
use Rattle.reshape_geometry.proofs.ClosedForms.{rounded_up}
use Rattle.reshape_geometry.proofs.Rows.{short_rows}
use Rattle.reshape_geometry.proofs.windows.rows.Goals as goal

same_low : (shape : Shape) (lo s c : ℕ) → s ≡ stripe_sectors shape → c ≡ shape.chunk → lo / s * c ≡ lo / stripe_sectors shape * shape.chunk
same_low shape lo s c es ec = ap (λ (x : ℕ). lo / x * c) es ∙ ap (λ (x : ℕ). lo / stripe_sectors shape * x) ec

same_high : (shape : Shape) (hi w c : ℕ) → w ≡ ceiling hi (stripe_sectors shape) → c ≡ shape.chunk → w * c ≡ ceiling hi (stripe_sectors shape) * shape.chunk
same_high shape hi w c ew ec = ap (λ (x : ℕ). x * c) ew ∙ ap (λ (x : ℕ). ceiling hi (stripe_sectors shape) * x) ec

same_span : (a b c d : ℕ) → a ≡ c → b ≡ d → let left : Span = record { lo = a; hi = b } in left ≡ record { lo = c; hi = d }
same_span a b c d e f = cc

pub overflow_mul-result : goal.overflow_mul-result
overflow_mul-result c =
    let same = same_low c.args.shape.now c.args.lo c.stripe_sectors-stripe.result c.from-chunk.result c.stripe_sectors-stripe.ensures.value c.from-chunk.ensures in
    let short = short_rows c.args.shape.now c.args.lo c.args.hi c.requires.valid c.requires.short c.requires.inside in
    omega (arith, same, short.0)

pub overflow_mul-result-2 : goal.overflow_mul-result-2
overflow_mul-result-2 c =
    let w = rounded_up c.div_ceil.result c.args.hi c.stripe_sectors-stripe.result (stripe_sectors c.args.shape.now) c.stripe_sectors-stripe.ensures.positive c.stripe_sectors-stripe.ensures.value c.div_ceil.ensures in
    let same = same_high c.args.shape.now c.args.hi c.div_ceil.result c.from-chunk.result w c.from-chunk.ensures in
    let short = short_rows c.args.shape.now c.args.lo c.args.hi c.requires.valid c.requires.short c.requires.inside in
    omega (arith, same, short.1)

pub returns : goal.returns
returns c =
    let w = rounded_up c.div_ceil.result c.args.hi c.stripe_sectors-stripe.result (stripe_sectors c.args.shape.now) c.stripe_sectors-stripe.ensures.positive c.stripe_sectors-stripe.ensures.value c.div_ceil.ensures in
    same_span _ _ _ _
    (same_low c.args.shape.now c.args.lo c.stripe_sectors-stripe.result c.from-chunk.result c.stripe_sectors-stripe.ensures.value c.from-chunk.ensures)
    (same_high c.args.shape.now c.args.hi c.div_ceil.result c.from-chunk.result w c.from-chunk.ensures)
