-- Where the sectors of an array stand whose data move down into free room: a region for each shape, each with its own data offset.
use Rattle.std.specs.Prelude.{ℕ, suc, ◌+◌, ◌-◌, ◌*◌, ◌^◌, Bool, not, ◌&&◌, ◌||◌, ◌==◌, nat_lt, nat_le, bit_and, if◌then◌else◌, List, [], ◌∷◌, ◌++◌, filter, find, ℤ, pos, negsuc, Option, None, unwrap_or, option_map}
use Rattle.std.specs.Option.{option_map_or, option_or}
use Rattle.std.specs.List.{list_any}
use Rattle.std.specs.Int.{bit_at}
use Rattle.history.specs.raid_types_the_Shape.{Shape}
use Rattle.history.specs.raid_types_the_Side.{Side}
use Rattle.history.specs.raid_types_the_Side_TheVariants.{Old, New}
use Rattle.history.specs.raid_types_Search.{tabulate}
use Rattle.history.specs.raid_types_Sectors.{Sector}
use Rattle.history.specs.bank_Tape.{Contents}
use Rattle.history.specs.sb_codec_the_Sb.{Sb}
use Rattle.history.specs.raid_layout_Layout.{place, row_roles}
use Rattle.history.specs.raid_parity_Parity.{Row, fill}
use Rattle.history.specs.reshape_geometry_Geometry.{side}
use Rattle.history.specs.sb_specs_Reading.{Scope, Reading, reading, is_reshaping, is_backward, is_spare, shape_of, final_shape, list_length, role_state, rows_held, holder, own_of, data_offset_of}
use Rattle.history.specs.sb_specs_Verdict.{fresh_from, is_holder, judged_fields, first_bad_entry, two_holders, members_missing, dirty_degraded, off_unit, first_of_all}
use Rattle.history.specs.raid_types_the_Refusal.{Refusal}
use Rattle.history.specs.raid_types_the_Refusal_TheVariants.{Unsupported, BadField}
use Rattle.reshape_shift_laws.specs.Shifts.{least_shift}
use Rattle.history.specs.Stands.{shape_for}

-- ---- the new offset of a slot

-- new_offset counts
abbrev pub has_shift : Sb → Bool
has_shift sb = bit_at sb.feature_map 6 == 1

-- how many sectors a new_offset lies before the data offset; one at or above 0 is refused
abbrev pub down_by : ℤ → ℕ
down_by (pos n) = 0
down_by (negsuc n) = suc n

abbrev pub shift_in : Sb → ℕ
shift_in sb = if has_shift sb then down_by sb.new_offset else 0

-- by how much a slot's data move: as the newest superblock says where its bit 6 is set, else as the slot's own says
abbrev pub own_shift : Reading → ℕ → ℕ
own_shift r slot = option_map_or shift_in (own_of r slot) 0

abbrev pub shift_for : Reading → ℕ → ℕ
shift_for r slot = if has_shift r.newest then down_by r.newest.new_offset else own_shift r slot

abbrev pub new_offset_of : Reading → ℕ → ℕ
new_offset_of r slot = data_offset_of r slot - shift_for r slot

-- ---- the offset of a region

abbrev pub offset_at : Reading → Side → ℕ → ℕ
offset_at r Old slot = data_offset_of r slot
offset_at r New slot = new_offset_of r slot

-- where a slot's rows begin for this sector of the list: of the old region at its data offset, of the new one at the new offset, and where no
-- reshape is active all at the new offset
abbrev pub offset_for : Reading → ℕ → ℕ → ℕ
offset_for r x = if is_reshaping r.newest then offset_at r (side (is_backward r.newest) r.newest.reshape_position x) else new_offset_of r

-- ---- the list

-- a role's sector of a row, where each slot's rows begin at this offset
abbrev pub held_from : (ℕ → ℕ) → Contents → Reading → ℕ → ℕ → Option Sector
held_from offset c r role row =
    if nat_lt row (rows_held r (role_state r role))
    then option_map (λ slot. c slot (offset slot + row)) (holder (role_state r role))
    else None

abbrev pub row_from : (ℕ → ℕ) → Contents → Reading → Shape → ℕ → Row
row_from offset c r shape row = tabulate shape.disks (λ role. held_from offset c r role row)

abbrev pub placed_from : (ℕ → ℕ) → Contents → Reading → Shape → ℕ → Sector
placed_from offset c r shape x =
    let at = place shape x in
    unwrap_or (held_from offset c r at.role at.row) (fill (row_roles shape at.row) (row_from offset c r shape at.row) at.role)

abbrev pub shifted_sector : Contents → Reading → ℕ → Sector
shifted_sector c r x = placed_from (offset_for r x) c r (shape_for r.newest x) x

-- the flat list that the contents stand for; empty where no superblock is there
unfoldable pub shifted_list : Scope → Contents → List Sector
shifted_list scope c = option_map_or (λ r. tabulate (list_length r.newest) (shifted_sector c r)) (reading scope c) []

-- ---- the verdict

-- every bit but those of a recovery offset, of a reshape, of one backward and of a new offset
abbrev pub unsupported_bits : ℕ → ℕ
unsupported_bits features = bit_and features (2 ^ 32 - 1 - 2 - 4 - 32 - 64)

abbrev pub shift_unsupported : List (Sb × ℕ) → Option Refusal
shift_unsupported slots =
    option_map (λ s. Unsupported (unsupported_bits s.0.feature_map)) (find (λ s. not (unsupported_bits s.0.feature_map == 0)) slots)

-- by how much the data of a slot with this superblock move
abbrev pub shift_by : Sb → Sb → ℕ
shift_by newest sb = if has_shift newest then down_by newest.new_offset else shift_in sb

-- a holder or a spare whose new offset lies in the superblock
abbrev pub is_short : Sb → ℕ → Sb → Bool
is_short newest sectors sb =
    (is_holder newest sb || is_spare newest sectors sb) && nat_lt (sb.data_offset - shift_by newest sb) 10

-- the new offset fails: one that isn't below 0, one without room, and in a reshape one that is absent, backward or too small
abbrev pub is_bad_shift : Sb → List (Sb × ℕ) → Bool
is_bad_shift newest slots =
    list_any (λ s. has_shift s.0 && (down_by s.0.new_offset == 0)) slots
    || list_any (λ s. is_short newest s.1 s.0) slots
    || is_reshaping newest
    && (not (has_shift newest) || is_backward newest || nat_lt (down_by newest.new_offset) (least_shift (shape_of newest) (final_shape newest)))

-- the judged fields up to an offset, and those behind it
abbrev pub fields_to : ℕ → List (ℕ × Bool) → List (ℕ × Bool)
fields_to at fields = filter (λ f. nat_lt f.0 at) fields

abbrev pub fields_from : ℕ → List (ℕ × Bool) → List (ℕ × Bool)
fields_from at fields = filter (λ f. nat_le at f.0) fields

abbrev pub shift_fields : Sb → List (Sb × ℕ) → List (ℕ × Bool)
shift_fields newest slots = fields_to 124 (judged_fields newest slots) ++ (124, is_bad_shift newest slots) ∷ fields_from 124 (judged_fields newest slots)

abbrev pub shift_bad_field : Sb → List (Sb × ℕ) → Option Refusal
shift_bad_field newest slots =
    option_or (option_map (λ f. BadField f.0) (find (λ f. f.1) (shift_fields newest slots)))
    (option_map (λ index. BadField (256 + 2 * index)) (first_bad_entry newest slots))

-- the first refusal of what the superblocks say, behind those that there are none and that none has a new offset
abbrev pub shift_refusal : (ℕ → ℕ) → Reading → Option Refusal
shift_refusal sectors r =
    let slots = fresh_from r.newest sectors 0 r.own in
    first_of_all (shift_unsupported slots ∷ shift_bad_field r.newest slots ∷ two_holders slots
    ∷ members_missing r.newest r.roles ∷ dirty_degraded r.newest r.roles ∷ off_unit r.newest ∷ [])

-- a fresh slot has a new offset: by these definitions an image is judged then, and by those of an assembly else
abbrev pub has_any_shift : (ℕ → ℕ) → Reading → Bool
has_any_shift sectors r = list_any (λ s. has_shift s.0) (fresh_from r.newest sectors 0 r.own)
