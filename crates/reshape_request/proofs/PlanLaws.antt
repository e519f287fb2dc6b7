-- What a plan that is found has of the plan of the wish.
use Rattle.std.proofs.Common.{◌≡◌, ℕ, ◌^◌, ◌≤◌, true, List, [], ◌∷◌, arith}
use Rattle.std.specs.Prelude.{IsTrue}
use Rattle.std.proofs.lemmas.Bool.{and_parts}
use Rattle.std.proofs.lemmas.Bool.Decides.{nat_tests}
use Rattle.history.specs.raid_types_the_Shape.{Shape}
use Rattle.history.specs.raid_types_the_Phase.{Phase}
use Rattle.history.specs.raid_types_the_Phase_TheVariants.{Reshape, UpTo6, DownTo5}
use Rattle.history.specs.raid_types_Shapes.{is_valid_shape, is_disk_count}
use Rattle.history.specs.sb_codec_the_Sb.{Sb}
use Rattle.history.specs.reshape_geometry_Geometry.{AreInForce}
use Rattle.history.proofs.reshape_geometry_Valid.{bounded_pair}
use Rattle.stripe_row.specs.sb_specs_Reading.{role_count, shape_of, final_shape}
use Rattle.history.specs.sb_specs_Verdict.{AreValidShapes}
use Rattle.history.specs.reshape_plan_Plans.{AreSound, phase_shape, phase_window, largest_window}

window-short : (now : Shape) (size : ℕ) (phase : Phase) → AreInForce now (phase_shape phase) size → phase_window now size phase ≤ 2 ^ 53
window-short now size (Reshape to) force = let b = (bounded_pair now to size force).short_list in omega (arith, b)
window-short now size (UpTo6 to) force = omega arith
window-short now size (DownTo5 to) force = omega arith

pub windows-short : (now : Shape) (size : ℕ) (way : List Phase) → AreSound now size way → largest_window now size way ≤ 2 ^ 53
windows-short now size [] sound = omega arith
windows-short now size (phase ∷ more) sound =
    let here = window-short now size phase sound.0 in
    let rest = windows-short (phase_shape phase) size more sound.2 in
    omega (arith, here, rest)

few-disks : (level disks : ℕ) → is_disk_count level disks ≡ true → disks ≤ 16
few-disks level disks e = grind (arith, nat_tests)

few : (shape : Shape) → IsTrue (is_valid_shape shape) → shape.disks ≤ 16
few shape valid = let p = and_parts _ _ valid in few-disks shape.level shape.disks p.1

pub few-roles : (newest : Sb) → AreValidShapes newest → role_count newest ≤ 16
few-roles newest valid =
    let a = few (shape_of newest) valid.old in
    let b = few (final_shape newest) valid.final in
    omega (arith, a, b)
