use Rattle.std.proofs.Common.{◌≡◌, ℕ, ◌-◌, ◌/◌, refl, ap, arith}
use Rattle.raid_types.specs.Shapes.{stripe_sectors}
use Rattle.reshape_geometry.specs.Geometry.{unit, list_end, ceiling}
use Rattle.reshape_geometry.proofs.ClosedForms.{rounded_up, rounded_up_at, forward_none, forward_value, forward_short, ceiling_below}
use Rattle.reshape_geometry.proofs.steps.forward_steps.Goals as goal

pub returns-then-windows-eq0 : goal.returns-then-windows-eq0
returns-then-windows-eq0 c =
    let ahead = ap (λ (x : ℕ). x - c.args.position) c.list_end-end.ensures.value in
    let w = rounded_up_at c.div_ceil-windows.result _ c.unit.result _ (unit c.args.old.now c.args.new.now) c.unit.ensures.least.positive ahead c.unit.ensures.value c.div_ceil-windows.ensures in
    record {
      value = forward_none c.args.old.now c.args.new.now c.args.size c.args.position c.div_ceil-windows.result c.requires.in_force w c.if-windows-eq0.true;
      short = omega arith;
    }

pub overflow_mul-result : goal.overflow_mul-result
overflow_mul-result c =
    let w : c.div_ceil-windows.result ≡ ceiling (c.list_end-end.result - c.args.position) c.unit.result = rounded_up _ _ _ _ c.unit.ensures.least.positive refl c.div_ceil-windows.ensures in
    omega (arith, w, ceiling_below (c.list_end-end.result - c.args.position) c.unit.result c.unit.ensures.least.positive, c.list_end-end.ensures.short)

pub overflow_add-result : goal.overflow_add-result
overflow_add-result c =
    let b = forward_short c.div_ceil-windows.result c.list_end-end.result c.args.position c.unit.result c.stripe_sectors-stripe.result c.div_ceil.result c.div_ceil-2.result c.unit.ensures.least.positive c.stripe_sectors-stripe.ensures.positive c.list_end-end.ensures.short c.div_ceil-windows.ensures c.div_ceil.ensures c.div_ceil-2.ensures in
    omega (arith, b.windows, b.stripes)

pub overflow_mul-result-2 : goal.overflow_mul-result-2
overflow_mul-result-2 c =
    let b = forward_short c.div_ceil-windows.result c.list_end-end.result c.args.position c.unit.result c.stripe_sectors-stripe.result c.div_ceil.result c.div_ceil-2.result c.unit.ensures.least.positive c.stripe_sectors-stripe.ensures.positive c.list_end-end.ensures.short c.div_ceil-windows.ensures c.div_ceil.ensures c.div_ceil-2.ensures in
    omega (arith, b.windows, b.twice)

pub overflow_add-result-2 : goal.overflow_add-result-2
overflow_add-result-2 c =
    let b = forward_short c.div_ceil-windows.result c.list_end-end.result c.args.position c.unit.result c.stripe_sectors-stripe.result c.div_ceil.result c.div_ceil-2.result c.unit.ensures.least.positive c.stripe_sectors-stripe.ensures.positive c.list_end-end.ensures.short c.div_ceil-windows.ensures c.div_ceil.ensures c.div_ceil-2.ensures in
    omega (arith, b.windows, b.stripes, b.twice)

pub returns : goal.returns
returns c =
    let ahead = ap (λ (x : ℕ). x - c.args.position) c.list_end-end.ensures.value in
    let w = rounded_up_at c.div_ceil-windows.result _ c.unit.result _ (unit c.args.old.now c.args.new.now) c.unit.ensures.least.positive ahead c.unit.ensures.value c.div_ceil-windows.ensures in
    let up = rounded_up c.div_ceil.result c.args.position c.stripe_sectors-stripe.result (stripe_sectors c.args.new.now) c.stripe_sectors-stripe.ensures.positive c.stripe_sectors-stripe.ensures.value c.div_ceil.ensures in
    let end = rounded_up_at c.div_ceil-2.result c.list_end-end.result c.stripe_sectors-stripe.result (list_end c.args.old.now c.args.new.now c.args.size) (stripe_sectors c.args.new.now) c.stripe_sectors-stripe.ensures.positive c.list_end-end.ensures.value c.stripe_sectors-stripe.ensures.value c.div_ceil-2.ensures in
    let whole = ap (λ (x : ℕ). c.args.position / x) c.stripe_sectors-stripe.ensures.value in
    let b = forward_short c.div_ceil-windows.result c.list_end-end.result c.args.position c.unit.result c.stripe_sectors-stripe.result c.div_ceil.result c.div_ceil-2.result c.unit.ensures.least.positive c.stripe_sectors-stripe.ensures.positive c.list_end-end.ensures.short c.div_ceil-windows.ensures c.div_ceil.ensures c.div_ceil-2.ensures in
    record {
      value = forward_value c.args.old.now c.args.new.now c.args.size c.args.position c.div_ceil-windows.result (c.args.position / c.stripe_sectors-stripe.result) c.div_ceil.result c.div_ceil-2.result c.requires.in_force c.requires.within w c.if-windows-eq0.false whole up end;
      short = omega (arith, b.windows, b.stripes, b.twice);
    }
