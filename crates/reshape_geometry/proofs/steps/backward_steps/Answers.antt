use Rattle.std.proofs.Common.{arith}
use Rattle.raid_types.specs.Shapes.{stripe_sectors}
use Rattle.reshape_geometry.specs.Geometry.{unit}
use Rattle.reshape_geometry.proofs.ClosedForms.{rounded_up, ceiling_below, backward_value}
use Rattle.reshape_geometry.proofs.Valid.{bounded, bounded_pair}
use Rattle.reshape_geometry.proofs.steps.backward_steps.Goals as goal

pub overflow_mul-result : goal.overflow_mul-result
overflow_mul-result c =
    let b = bounded_pair c.args.old.now c.args.new.now c.args.size c.requires.in_force in
    let w = rounded_up c.div_ceil.result c.args.position c.unit.result (unit c.args.old.now c.args.new.now) c.unit.ensures.least.positive c.unit.ensures.value c.div_ceil.ensures in
    let le = ceiling_below c.args.position (unit c.args.old.now c.args.new.now) b.some_unit in
    omega (arith, w, le, b.short_list, c.requires.within)

pub returns : goal.returns
returns c =
    let b = bounded_pair c.args.old.now c.args.new.now c.args.size c.requires.in_force in
    let n = bounded c.args.new.now c.requires.in_force.new_valid in
    let w = rounded_up c.div_ceil.result c.args.position c.unit.result (unit c.args.old.now c.args.new.now) c.unit.ensures.least.positive c.unit.ensures.value c.div_ceil.ensures in
    let s = rounded_up c.div_ceil-2.result c.args.position c.stripe_sectors.result (stripe_sectors c.args.new.now) c.stripe_sectors.ensures.positive c.stripe_sectors.ensures.value c.div_ceil-2.ensures in
    let le = ceiling_below c.args.position (unit c.args.old.now c.args.new.now) b.some_unit in
    let le_s = ceiling_below c.args.position (stripe_sectors c.args.new.now) (omega (arith, n.some_stripe)) in
    record {
      value = backward_value c.args.old.now c.args.new.now c.args.size c.args.position c.div_ceil.result c.div_ceil-2.result c.requires.in_force w s;
      short = omega (arith, w, s, le, le_s, b.short_list, c.requires.within);
    }

pub overflow_add-result : goal.overflow_add-result
overflow_add-result c =
    let b = bounded_pair c.args.old.now c.args.new.now c.args.size c.requires.in_force in
    let n = bounded c.args.new.now c.requires.in_force.new_valid in
    let w = rounded_up c.div_ceil.result c.args.position c.unit.result (unit c.args.old.now c.args.new.now) c.unit.ensures.least.positive c.unit.ensures.value c.div_ceil.ensures in
    let s = rounded_up c.div_ceil-2.result c.args.position c.stripe_sectors.result (stripe_sectors c.args.new.now) c.stripe_sectors.ensures.positive c.stripe_sectors.ensures.value c.div_ceil-2.ensures in
    let le = ceiling_below c.args.position (unit c.args.old.now c.args.new.now) b.some_unit in
    let le_s = ceiling_below c.args.position (stripe_sectors c.args.new.now) (omega (arith, n.some_stripe)) in
    omega (arith, w, s, le, le_s, b.short_list, c.requires.within)
