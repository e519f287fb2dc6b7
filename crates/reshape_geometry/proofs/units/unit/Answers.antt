use Rattle.std.proofs.Common.{sym, subst, arith}
use Rattle.raid_types.specs.Shapes.{stripe_sectors}
use Rattle.reshape_geometry.specs.Geometry.{IsLeastCommonMultiple}
use Rattle.reshape_geometry.proofs.Valid.{bounded, the_unit, short_unit, unit_by_divisor}
use Rattle.std.proofs.Math.Nat.{pos_of_dvd_of_pos}
use Rattle.reshape_geometry.proofs.units.unit.Goals as goal

pub nonzero_div-result : goal.nonzero_div-result
nonzero_div-result c =
    let old = bounded c.args.old.now c.requires.old_valid in
    pos_of_dvd_of_pos c.common_divisor.ensures.0 (omega (arith, old.some_stripe))

pub overflow_mul-result : goal.overflow_mul-result
overflow_mul-result c =
    let value = unit_by_divisor c.args.old.now c.args.new.now c.requires.old_valid c.requires.new_valid _ _ _ c.stripe_sectors-old_stripe.ensures.value c.stripe_sectors-new_stripe.ensures.value c.common_divisor.ensures in
    let short = short_unit c.args.old.now c.args.new.now c.requires.old_valid c.requires.new_valid in
    omega (arith, value, short)

pub returns : goal.returns
returns c =
    let value = unit_by_divisor c.args.old.now c.args.new.now c.requires.old_valid c.requires.new_valid _ _ _ c.stripe_sectors-old_stripe.ensures.value c.stripe_sectors-new_stripe.ensures.value c.common_divisor.ensures in
    let least = the_unit c.args.old.now c.args.new.now c.requires.old_valid c.requires.new_valid in
    let short = short_unit c.args.old.now c.args.new.now c.requires.old_valid c.requires.new_valid in
    record {
      value = value;
      least = subst (IsLeastCommonMultiple (stripe_sectors c.args.old.now) (stripe_sectors c.args.new.now)) (sym value) least;
      short = omega (arith, value, short);
    }
