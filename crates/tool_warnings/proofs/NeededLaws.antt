-- A shape of too many disks is none, and no reshape goes from one.
use Rattle.std.proofs.Common.{◌≡◌, ℕ, ◌<◌, Bool, true, false, ◌&&◌, nat_le, refl, ap, arith, Option, Some, None}
use Rattle.std.proofs.lemmas.Bool.Decides.{nat_tests}
use Rattle.reshape_geometry.specs.raid_types_the_Shape.{Shape}
use Rattle.reshape_geometry.specs.raid_types_Shapes.{is_valid_shape}
use Rattle.reshape_geometry.specs.Geometry.{is_size, list_end}
use Rattle.sb_codec.specs.declared.sb.Sb.{Sb}
use Rattle.tool_warnings.specs.Needed.{is_next_critical, needs_between}

and-false : (a b : Bool) → b ≡ false → (a && b) ≡ false
and-false true b e = e
and-false false b e = refl

pub too_many : (shape : Shape) → 16 < shape.disks → is_valid_shape shape ≡ false
too_many shape many =
    let beyond : nat_le shape.disks 16 ≡ false = grind (arith, nat_tests) in
    and-false _ _ (and-false _ _ beyond)

pub none-needed : (sb : Sb) (old : Shape) (target : Option Shape) → is_valid_shape old ≡ false → false ≡ needs_between sb old target
none-needed sb old None bad = refl
none-needed sb old (Some new) bad = cc (ap (λ valid. (valid && is_valid_shape new && is_size sb.size old.chunk && is_size sb.size new.chunk)
    && nat_le sb.reshape_position (list_end old new sb.size) && is_next_critical sb old new) bad)
