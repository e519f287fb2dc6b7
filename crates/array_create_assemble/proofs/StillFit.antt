-- The shapes in force fit where no reshape is active; so they do of elected members.
use Rattle.std.proofs.Common.{◌≡◌, ◌==◌, ◌||◌, ℕ, true, false, not, cond, Bool, List, length, Option, None, Some, sym, ap, subst}
use Rattle.array_found_laws.specs.raid_types_the_Shape.{Shape}
use Rattle.array_found_laws.specs.raid_types_the_Refusal_TheVariants.{PositionNotOnUnit}
use Rattle.array_found_laws.specs.raid_types_Shapes.{is_valid_shape, is_multiple}
use Rattle.array_found_laws.specs.sb_codec_the_Sb.{Sb}
use Rattle.array_found_laws.specs.reshape_geometry_Geometry.{is_size}
use Rattle.array_found_laws.specs.sb_specs_Reading.{is_reshaping, shape_of, final_shape, list_length}
use Rattle.array_found_laws.specs.sb_specs_Verdict.{unit_of, fresh_from}
use Rattle.array_found_laws.specs.sb_specs_the_Members.{Members}
use Rattle.array_found_laws.specs.sb_specs_Election.{reading_in, IsElected}
use Rattle.array_found_laws.proofs.Elected.{elected-unrefused, elected-valid}
use Rattle.array_found_laws.proofs.Fit.{sizes-good}
use Rattle.sb_add_spare.specs.crash_views_Regions.{AreShapesFit}
use Rattle.sb_add_spare.proofs.crash_views_Stands.{final-still}

module _ (newest : Sb) (still : is_reshaping newest ≡ false) (valid : is_valid_shape (shape_of newest) ≡ true) (size : is_size newest.size (shape_of newest).chunk ≡ true) where
  final : final_shape newest ≡ shape_of newest
  final = final-still newest still

  pub still-fit : AreShapesFit newest
  still-fit = record {
    valid = record { old = valid; final = subst (λ (s : Shape). is_valid_shape s ≡ true) (sym final) valid };
    size = size;
    final_size = subst (λ (s : Shape). is_size newest.size s.chunk ≡ true) (sym final) size;
    level = ap (λ (s : Shape). s.level) final;
    unit = ap (λ (b : Bool). cond (not b || is_multiple newest.reshape_position (unit_of newest) || (newest.reshape_position == list_length newest)) None (Some (PositionNotOnUnit newest.reshape_position (unit_of newest)))) still;
    position = λ active. absurd (cc);
    delta = λ active. absurd (cc);
    delta_back = λ active. absurd (cc);
  }

-- elected members without an active reshape
pub found-fit : (sectors : ℕ → ℕ) (own : List (Option Sb)) (lost : ℕ) (m : Members) → IsElected sectors own lost m → is_reshaping m.newest ≡ false → AreShapesFit m.newest
found-fit sectors own lost m elected still =
    still-fit m.newest still (elected-valid sectors own lost m elected).old
    (sizes-good m.newest (fresh_from m.newest sectors 0 (reading_in (length own) m).own) (elected-unrefused sectors own lost m elected).fields).0
