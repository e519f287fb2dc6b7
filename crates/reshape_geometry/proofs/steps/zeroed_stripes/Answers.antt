use Rattle.std.proofs.Common.{◌≡◌, ℕ, ◌/◌, ap, arith}
use Rattle.std.proofs.Math.Nat.{div-le_self}
use Rattle.raid_types.specs.Shapes.{stripe_sectors}
use Rattle.reshape_geometry.specs.Geometry.{list_end}
use Rattle.reshape_geometry.proofs.ClosedForms.{rounded_up_at, zeroed_value}
use Rattle.reshape_geometry.proofs.Valid.{list_fits}
use Rattle.reshape_geometry.proofs.steps.zeroed_stripes.Goals as goal

pub overflow_sub-result : goal.overflow_sub-result
overflow_sub-result c =
    let w = rounded_up_at c.div_ceil-copied.result c.list_end.result c.stripe_sectors.result (list_end c.args.old.now c.args.new.now c.args.size) (stripe_sectors c.args.new.now) c.stripe_sectors.ensures.positive c.list_end.ensures.value c.stripe_sectors.ensures.value c.div_ceil-copied.ensures in
    let fits = list_fits c.args.old.now c.args.new.now c.args.size c.requires in
    let same : c.args.size / c.from.result ≡ c.args.size / c.args.new.now.chunk = ap (λ (x : ℕ). c.args.size / x) c.from.ensures in
    omega (arith, w, fits, same)

pub returns : goal.returns
returns c =
    let w = rounded_up_at c.div_ceil-copied.result c.list_end.result c.stripe_sectors.result (list_end c.args.old.now c.args.new.now c.args.size) (stripe_sectors c.args.new.now) c.stripe_sectors.ensures.positive c.list_end.ensures.value c.stripe_sectors.ensures.value c.div_ceil-copied.ensures in
    record {
      value = zeroed_value c.args.old.now c.args.new.now c.args.size c.args.back c.div_ceil-copied.result c.from.result c.if-back.false w c.from.ensures;
      short = omega (arith, div-le_self c.args.size c.from.result);
    }
