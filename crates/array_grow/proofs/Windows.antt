-- The window of a reshape has some sectors, so that its plan has a backup (`begin-backed` of PlanLaws).
use Rattle.std.proofs.Common.{◌≡◌, ℕ, ◌*◌, ◌<◌, ◌≤◌, true, min, arith}
use Rattle.std.proofs.lemmas.Bool.{and_parts, leb-true}
use Rattle.std.proofs.lemmas.Nat.{mul-le}
use Rattle.array_reply_specs.specs.raid_types_Shapes.{data_disks}
use Rattle.array_reply_specs.specs.raid_types_the_Shape.{Shape}
use Rattle.array_reply_specs.specs.raid_types_the_Phase_TheVariants.{Reshape}
use Rattle.array_transition.specs.reshape_geometry_Geometry.{AreInForce, is_size}
use Rattle.array_transition.proofs.reshape_geometry_Valid.{bounded, bounded_pair}
use Rattle.array_transition.specs.reshape_plan_Plans.{phase_window}

some-size : (size chunk : ℕ) → is_size size chunk ≡ true → 1 ≤ size
some-size size chunk is = leb-true 1 size (and_parts _ _ (and_parts _ _ is).0).0

pub some-window : (now to : Shape) (size : ℕ) → AreInForce now to size → 0 < phase_window now size (Reshape to)
some-window now to size force =
    let unit = (bounded_pair now to size force).some_unit in
    let one = (bounded now force.old_valid).some_data in
    let two = (bounded to force.new_valid).some_data in
    let rows = some-size size now.chunk force.old_size in
    let list : 1 * 1 ≤ min (data_disks now) (data_disks to) * size = mul-le 1 1 (min (data_disks now) (data_disks to)) size (omega (arith, one, two)) rows in
    omega (arith, unit, list)
