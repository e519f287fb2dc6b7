-- The lowered reading has each slot's rows at the new offset, and the same rows.
use Rattle.std.proofs.Common.{◌≡◌, ℕ, ◌+◌, ◌-◌, Bool, true, false, cond, List, [], ◌∷◌, map, get_or, zero, suc, Option, Some, None, option_map, refl, sym, ap, ◌∙◌, arith}
use Rattle.std.specs.Option.{option_map_or}
use Rattle.history.specs.raid_types_the_Shape.{Shape}
use Rattle.history.specs.raid_types_the_Side.{Side}
use Rattle.history.specs.raid_types_the_Side_TheVariants.{Old, New}
use Rattle.history.specs.raid_types_the_Role.{Role}
use Rattle.history.specs.raid_types_the_Role_TheVariants.{Whole, Recovering, Missing}
use Rattle.history.specs.raid_types_Shapes.{is_valid_shape}
use Rattle.history.specs.bank_Tape.{Contents}
use Rattle.history.specs.sb_codec_the_Sb.{Sb}
use Rattle.history.specs.raid_layout_Layout.{place}
use Rattle.history.specs.reshape_geometry_Geometry.{side}
use Rattle.history.specs.sb_specs_Reading.{Reading, is_reshaping, is_backward, role_state, rows_held, own_of, data_offset_of}
use Rattle.history.specs.Stands.{placed_sector, shape_for}
use Rattle.crash_shift_views.specs.Shifted.{has_shift, down_by, shift_in, new_offset_of, offset_at, placed_from}
use Rattle.crash_shift_views.specs.Steps.{AreRolesAlike, lower, lowered, reading_at, RegionsReadLowered}
use Rattle.crash_shift_views.proofs.Alike.{placed-alike}

own-map : (f : Sb → Sb) (own : List (Option Sb)) (slot : ℕ) → get_or (map (option_map f) own) slot None ≡ option_map f (get_or own slot None)
own-map f [] slot = refl
own-map f (o ∷ own) zero = refl
own-map f (o ∷ own) (suc slot) = own-map f own slot

own-lowered : (r : Reading) (slot : ℕ) → own_of (lowered r) slot ≡ option_map (lower r.newest) (own_of r slot)
own-lowered r slot = own-map (lower r.newest) r.own slot

offset-lowered : (r : Reading) (slot : ℕ) → data_offset_of (lowered r) slot ≡ new_offset_of r slot
offset-lowered r slot = ap (λ o. option_map_or (λ sb. sb.data_offset) o 0) (own-lowered r slot) ∙ of (own_of r slot)
  where
    of : (o : Option Sb) → option_map_or (λ sb. sb.data_offset) (option_map (lower r.newest) o) 0
        ≡ option_map_or (λ sb. sb.data_offset) o 0 - cond (has_shift r.newest) (down_by r.newest.new_offset) (option_map_or shift_in o 0)
    of None = omega arith
    of (Some sb) = refl

rows-lowered : (r : Reading) (state : Role) → rows_held (lowered r) state ≡ rows_held r state
rows-lowered r (Whole slot) = refl
rows-lowered r (Recovering slot) = ap (λ n. cond (is_reshaping r.newest) 0 n) (ap (λ o. option_map_or (λ sb. sb.recovery_offset) o 0) (own-lowered r slot) ∙ of (own_of r slot))
  where
    of : (o : Option Sb) → option_map_or (λ sb. sb.recovery_offset) (option_map (lower r.newest) o) 0 ≡ option_map_or (λ sb. sb.recovery_offset) o 0
    of None = refl
    of (Some sb) = refl
rows-lowered r Missing = refl

lowered-alike : (shape : Shape) (r : Reading) → AreRolesAlike shape (lowered r) r
lowered-alike shape r = record { roles = λ role lt. refl; rows = λ role lt. sym (rows-lowered r (role_state r role)) }

by-lowered : (c : Contents) (r : Reading) (shape : Shape) → is_valid_shape shape ≡ true → (x : ℕ) → placed_from (new_offset_of r) c r shape x ≡ placed_sector c (lowered r) shape x
by-lowered c r shape valid x =
    placed-alike (data_offset_of (lowered r)) (new_offset_of r) c c (lowered r) r shape valid x (lowered-alike shape r)
    (λ role slot lt held. ap (λ n. c slot (n + (place shape x).row)) (sym (offset-lowered r slot)))

pub regions-lowered : RegionsReadLowered
regions-lowered c r x valid = by (is_reshaping r.newest) (side (is_backward r.newest) r.newest.reshape_position x)
  where
    by : (b : Bool) (s : Side) → placed_from (cond b (offset_at r s) (new_offset_of r)) c r (shape_for r.newest x) x
        ≡ placed_sector c (cond b (reading_at r s) (lowered r)) (shape_for r.newest x) x
    by true Old = refl
    by true New = by-lowered c r (shape_for r.newest x) valid x
    by false s = by-lowered c r (shape_for r.newest x) valid x
