-- What the stored superblocks are refused for, the backup left aside.
use Rattle.std.specs.Prelude.{ℕ, ◌+◌, ◌*◌, ◌^◌, Bool, not, ◌&&◌, ◌||◌, ◌==◌, nat_le, nat_lt, if◌then◌else◌, min, List, [], ◌∷◌, find, Option, Some, None, option_map, slice_index_or, IsTrue}
use Rattle.std.specs.Option.{option_map_or, option_or}
use Rattle.std.specs.List.{list_any}
use Rattle.reshape_geometry.specs.raid_types_the_Shape.{Shape}
use Rattle.bank.specs.raid_types_the_Role.{Role}
use Rattle.bank.specs.raid_types_the_Role_TheVariants.{Missing}
use Rattle.reshape_geometry.specs.raid_types_the_Refusal.{Refusal}
use Rattle.reshape_geometry.specs.raid_types_the_Refusal_TheVariants.{NoSuperblock, Unsupported, BadField, TwoHolders, MembersMissing, DirtyDegraded, PositionNotOnUnit}
use Rattle.reshape_geometry.specs.raid_types_Shapes.{tolerance, is_level, is_layout, is_chunk, is_disk_count, is_multiple, is_valid_shape}
use Rattle.reshape_geometry.specs.raid_types_Search.{least_below, count_below, any_below}
use Rattle.sb_codec.specs.declared.sb.Sb.{Sb}
use Rattle.sb_codec.specs.Features.{refused_bits}
use Rattle.raid_layout.specs.Layout.{is_parity_only}
use Rattle.reshape_geometry.specs.Geometry.{unit}
use Rattle.sb_specs.specs.Reading.{Reading, reading_of, is_fresh, is_reshaping, is_clean, shape_of, final_shape, shapes_in_force, role_count, list_length, entry_of, lies_within, is_whole}

-- the fresh superblocks, each with its slot's length, from this slot on
abbrev pub fresh_from : Sb → (ℕ → ℕ) → ℕ → List (Option Sb) → List (Sb × ℕ)
fresh_from newest sectors slot [] = []
fresh_from newest sectors slot (None ∷ own) = fresh_from newest sectors (slot + 1) own
fresh_from newest sectors slot (Some sb ∷ own) =
    if is_fresh newest sb then (sb, sectors slot) ∷ fresh_from newest sectors (slot + 1) own
    else fresh_from newest sectors (slot + 1) own

-- the refused feature bits of the first slot that has some
abbrev pub unsupported : List (Sb × ℕ) → Option Refusal
unsupported slots =
    option_map (λ s. Unsupported (refused_bits s.0.feature_map)) (find (λ s. not (refused_bits s.0.feature_map == 0)) slots)

-- the slot holds a role
abbrev pub is_holder : Sb → Sb → Bool
is_holder newest sb = nat_lt (entry_of newest sb.dev_number) (role_count newest)

-- a role entry is a role, and no spare or faulty number
abbrev pub is_role : ℕ → Bool
is_role entry = nat_lt entry 0xfffe

-- the role entry at this index can't be: no such role, a role that stands at a lower index too, or one past 127
abbrev pub is_bad_entry : Sb → ℕ → Bool
is_bad_entry newest index =
    is_role (entry_of newest index)
    && (nat_le (role_count newest) (entry_of newest index)
    || any_below index (λ before. entry_of newest before == entry_of newest index)
    || nat_le 128 index)

-- of these superblocks one has a role for this device number, from 128 on
abbrev pub is_late_entry : List (Sb × ℕ) → ℕ → Bool
is_late_entry slots index = list_any (λ s. is_role (entry_of s.0 index)) slots && nat_le 128 index

-- the first of 384 role entries that can't be: in the newest superblock, or from 128 on in that of any fresh slot
abbrev pub first_bad_entry : Sb → List (Sb × ℕ) → Option ℕ
first_bad_entry newest slots = least_below 384 (λ index. is_late_entry slots index || is_bad_entry newest index)

-- the size is within its limits, and a multiple of each chunk in force
abbrev pub is_bad_size : Sb → Bool
is_bad_size sb =
    not (nat_le 1 sb.size && nat_le sb.size (2 ^ 48) && is_multiple sb.size sb.chunksize
    && (not (is_reshaping sb) || is_multiple sb.size sb.new_chunk))

-- each judged field by its offset, in order, with the test that fails it
abbrev pub judged_fields : Sb → List (Sb × ℕ) → List (ℕ × Bool)
judged_fields sb slots =
    (72, not (is_level sb.level)) ∷
    (76, not (is_layout sb.level sb.layout)) ∷
    (80, is_bad_size sb) ∷
    (88, not (is_chunk sb.chunksize)) ∷
    (92, not (is_disk_count sb.level sb.raid_disks)) ∷
    (100, is_reshaping sb && not (sb.new_level == sb.level)) ∷
    (104, is_reshaping sb && not (nat_le sb.reshape_position (list_length sb))) ∷
    (112, is_reshaping sb && not (is_disk_count sb.level (shape_of sb).disks)) ∷
    (116, is_reshaping sb && not (is_layout sb.level sb.new_layout)) ∷
    (120, is_reshaping sb && not (is_chunk sb.new_chunk)) ∷
    (128, list_any (λ s. is_holder sb s.0 && not (lies_within sb s.1 s.0)) slots) ∷
    (200, not (nat_lt sb.events (2 ^ 62))) ∷
    (220, list_any (λ s. nat_lt s.0.max_dev 128) slots) ∷ []

-- the first field that fails, and behind the fields the first role entry
abbrev pub bad_field : Sb → List (Sb × ℕ) → Option Refusal
bad_field sb slots =
    option_or (option_map (λ f. BadField f.0) (find (λ f. f.1) (judged_fields sb slots)))
    (option_map (λ index. BadField (256 + 2 * index)) (first_bad_entry sb slots))

abbrev pub has_dev : ℕ → List (Sb × ℕ) → Bool
has_dev dev slots = list_any (λ s. s.0.dev_number == dev) slots

abbrev pub lower : ℕ → Option ℕ → ℕ
lower n None = n
lower n (Some m) = min n m

-- the lowest device number that two of these slots have
abbrev pub shared_dev : List (Sb × ℕ) → Option ℕ
shared_dev [] = None
shared_dev (s ∷ slots) = if has_dev s.0.dev_number slots then Some (lower s.0.dev_number (shared_dev slots)) else shared_dev slots

abbrev pub two_holders : List (Sb × ℕ) → Option Refusal
two_holders slots = option_map (λ dev. TwoHolders dev) (shared_dev slots)

-- the missing roles of a shape: those below its disks that aren't whole
abbrev pub is_missing : List Role → ℕ → Bool
is_missing roles role = not (is_whole (slice_index_or roles role Missing))

abbrev pub missing_count : List Role → Shape → ℕ
missing_count roles shape = count_below shape.disks (is_missing roles)

abbrev pub too_many : List Role → Shape → Bool
too_many roles shape = nat_lt (tolerance shape) (missing_count roles shape)

abbrev pub members_missing : Sb → List Role → Option Refusal
members_missing sb roles =
    option_map (λ shape. MembersMissing (missing_count roles shape) (tolerance shape)) (find (too_many roles) (shapes_in_force sb))

-- the role holds data in some shape in force
abbrev pub holds_data : Sb → ℕ → Bool
holds_data sb role = list_any (λ shape. not (is_parity_only shape role)) (shapes_in_force sb)

abbrev pub dirty_degraded : Sb → List Role → Option Refusal
dirty_degraded sb roles =
    if is_clean sb then None
    else option_map (λ role. DirtyDegraded role) (least_below (role_count sb) (λ role. is_missing roles role && holds_data sb role))

-- the unit of the two shapes
abbrev pub unit_of : Sb → ℕ
unit_of sb = unit (shape_of sb) (final_shape sb)

abbrev pub off_unit : Sb → Option Refusal
off_unit sb =
    if not (is_reshaping sb) || is_multiple sb.reshape_position (unit_of sb) || (sb.reshape_position == list_length sb)
    then None else Some (PositionNotOnUnit sb.reshape_position (unit_of sb))

-- the first of these refusals
abbrev pub first_of_all : List (Option Refusal) → Option Refusal
first_of_all [] = None
first_of_all (refusal ∷ refusals) = option_or refusal (first_of_all refusals)

-- the first refusal of what the superblocks say
abbrev pub members_refusal : (ℕ → ℕ) → Reading → Option Refusal
members_refusal sectors r =
    let slots = fresh_from r.newest sectors 0 r.own in
    first_of_all (unsupported slots ∷ bad_field r.newest slots ∷ two_holders slots
    ∷ members_missing r.newest r.roles ∷ dirty_degraded r.newest r.roles ∷ off_unit r.newest ∷ [])

-- the same, of the superblocks of an array's slots
abbrev pub members_verdict : (ℕ → ℕ) → List (Option Sb) → Option Refusal
members_verdict sectors own = option_map_or (members_refusal sectors) (reading_of sectors own) (Some NoSuperblock)

-- the shapes in force, be it one or two, are valid
pub record AreValidShapes (sb : Sb) : Type 0 where
  pub old : IsTrue (is_valid_shape (shape_of sb))
  pub final : IsTrue (is_valid_shape (final_shape sb))
