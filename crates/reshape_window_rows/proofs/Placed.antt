-- Members that are placed have the rows of both shapes.
use Rattle.std.proofs.Common.{◌≡◌, ◌^◌, ◌≤◌, ◌&&◌, nat_le, true, length, arith}
use Rattle.std.specs.Prelude.{IsTrue}
use Rattle.std.proofs.lemmas.Bool.{and_parts}
use Rattle.std.proofs.lemmas.Bool.Decides.{nat_tests}
use Rattle.raid_layout.specs.raid_types_the_Shape.{Shape}
use Rattle.raid_layout.specs.raid_types_Shapes.{is_valid_shape, is_multiple}
use Rattle.reshape_begin_end.specs.bank_Given.{Given}
use Rattle.raid_layout.proofs.Limits.{limited}
use Rattle.reshape_begin_end.specs.reshape_geometry_Geometry.{is_size}
use Rattle.reshape_begin_end.specs.sb_specs_the_Members.{Members}
use Rattle.reshape_begin_end.specs.sb_specs_Reading.{Scope, shape_of, final_shape}
use Rattle.reshape_begin_end.specs.stripe_row_Rows.{reading_of}
use Rattle.reshape_begin_end.specs.stripe_list_Calls.{HasRows}
use Rattle.reshape_begin_end.specs.crash_views_Regions.{ArePlaced}
use Rattle.reshape_window_rows.specs.Laws.{PlacedHaveRows}

module _ (scope : Scope) (given : Given) (m : Members) (placed : ArePlaced scope given m) where
  has-rows : (shape : Shape) → IsTrue (is_valid_shape shape) → IsTrue (is_size m.newest.size shape.chunk) → shape.disks ≤ length m.roles → HasRows given (reading_of m) shape
  has-rows shape valid size few =
      let old = (limited (shape_of m.newest) placed.fit.valid.old).most in
      let new = (limited (final_shape m.newest) placed.fit.valid.final).most in
      let roles = placed.roles in
      let limits : (nat_le 1 m.newest.size && nat_le m.newest.size (2 ^ 48)) ≡ true = (and_parts (nat_le 1 m.newest.size && nat_le m.newest.size (2 ^ 48)) (is_multiple m.newest.size shape.chunk) size).0 in
      let below : nat_le m.newest.size (2 ^ 48) ≡ true = (and_parts (nat_le 1 m.newest.size) (nat_le m.newest.size (2 ^ 48)) limits).1 in
      record {
        valid = valid;
        multiple = (and_parts _ _ size).1;
        short = grind (arith, nat_tests, below);
        roles = few;
        few = omega (arith, old, new, roles);
        holders = placed.holders;
      }

  both : HasRows given (reading_of m) (shape_of m.newest) × HasRows given (reading_of m) (final_shape m.newest)
  both =
      let roles = placed.roles in (
        has-rows (shape_of m.newest) placed.fit.valid.old placed.fit.size (omega (arith, roles)),
        has-rows (final_shape m.newest) placed.fit.valid.final placed.fit.final_size (omega (arith, roles)),
      )

pub placed-have-rows : PlacedHaveRows
placed-have-rows scope given m placed = both scope given m placed
