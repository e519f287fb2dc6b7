-- The change that begins a reshape, and what the superblocks say then.
use Rattle.std.specs.Prelude.{◌≡◌, ℕ, ◌+◌, ◌-◌, ◌^◌, Bool, true, ◌&&◌, nat_lt, if◌then◌else◌, bit_and, bit_or, List, None, pos, ◌-ℤ◌}
use Rattle.sb_update.specs.raid_types_the_Shape.{Shape}
use Rattle.sb_update.specs.raid_types_Shapes.{data_disks}
use Rattle.sb_update.specs.raid_types_Search.{tabulate, count_below}
use Rattle.sb_update.specs.sb_codec_the_Sb.{Sb}
use Rattle.sb_update.specs.reshape_geometry_Geometry.{list_end}
use Rattle.sb_update.specs.sb_specs_the_Give.{Give}
use Rattle.sb_update.specs.sb_specs_the_Give_TheVariants.{Same}
use Rattle.sb_update.specs.sb_specs_the_Give_TheVariants as give
use Rattle.sb_update.specs.sb_specs_the_Change.{Change}
use Rattle.sb_update.specs.sb_specs_the_Members.{Members}
use Rattle.sb_update.specs.sb_specs_Reading.{is_reshaping, is_backward, shape_of, final_shape}
use Rattle.sb_update.specs.sb_specs_Reads.{has_spare}
use Rattle.crash_reshape_laws.specs.crash_safety_laws_Updates.{IsAtStart}

-- ---- what the superblocks say

-- A reshape goes backward where the new shape has fewer data disks, and forward otherwise.
abbrev pub goes_back : Shape → Shape → Bool
goes_back now to = nat_lt (data_disks to) (data_disks now)

-- the feature map with bit 4, and without bit 32: the disk counts tell the direction
abbrev pub map_with_reshape : ℕ → ℕ
map_with_reshape map = bit_or (bit_and map (2 ^ 32 - 1 - (4 + 32))) 4

-- forward it begins at 0, backward at the end of the list that both shapes have room for
abbrev pub first_position : Shape → Shape → ℕ → ℕ
first_position now to size = if goes_back now to then list_end now to size else 0

-- A superblock with a reshape to this shape that has just begun; its own shape is the old one.
abbrev pub with_reshape : Shape → Sb → Sb
with_reshape to sb = record sb {
  feature_map = map_with_reshape sb.feature_map;
  raid_disks = to.disks;
  new_level = to.level;
  reshape_position = first_position (shape_of sb) to sb.size;
  delta_disks = pos to.disks -ℤ pos (shape_of sb).disks;
  new_layout = to.layout;
  new_chunk = to.chunk;
}

-- what such a superblock says of the array, which was as in the first one
pub record HasBegun (former : Sb) (to : Shape) (newest : Sb) : Type 0 where
  pub active : is_reshaping newest ≡ true
  pub old : shape_of newest ≡ shape_of former
  pub new : final_shape newest ≡ to
  pub backward : is_backward newest ≡ goes_back (shape_of former) to
  pub start : IsAtStart newest
  pub size : newest.size ≡ former.size
  pub clean : newest.resync_offset ≡ former.resync_offset

-- ---- who gets the new roles

-- The new roles go to the spares in slot order: the lowest spare gets the first of them.
abbrev pub new_role : List ℕ → ℕ → ℕ → ℕ
new_role spares first slot = first + count_below slot (has_spare spares)

-- a role, whole, or nothing else than before
abbrev pub give_where : Bool → ℕ → Give
give_where gets role = if gets then give.Role role None else Same

-- a spare gets its new role, where the new shape has so many
abbrev pub new_give : List ℕ → ℕ → ℕ → ℕ → Give
new_give spares first disks slot = give_where (has_spare spares slot && nat_lt (new_role spares first slot) disks) (new_role spares first slot)

-- the update that begins a reshape to this shape
abbrev pub beginning : Members → Shape → Change
beginning members to = record {
  shared = with_reshape to members.newest;
  gives = tabulate 32 (new_give members.spares (shape_of members.newest).disks to.disks);
  added = None;
}
