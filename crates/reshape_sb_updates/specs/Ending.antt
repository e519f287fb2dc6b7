-- The change that ends a reshape, and what the superblocks say then.
use Rattle.std.specs.Prelude.{◌≡◌, ℕ, ◌+◌, ◌-◌, ◌^◌, Bool, false, if◌then◌else◌, bit_and, List, drop, pos, None}
use Rattle.std.specs.List.{list_any}
use Rattle.sb_update.specs.raid_types_the_Role.{Role}
use Rattle.sb_update.specs.raid_types_Search.{tabulate}
use Rattle.sb_update.specs.sb_codec_the_Sb.{Sb}
use Rattle.sb_update.specs.sb_specs_the_Give.{Give}
use Rattle.sb_update.specs.sb_specs_the_Give_TheVariants.{Same, Spare}
use Rattle.sb_update.specs.sb_specs_the_Change.{Change}
use Rattle.sb_update.specs.sb_specs_the_Members.{Members}
use Rattle.sb_update.specs.sb_specs_Reading.{is_reshaping, shape_of, final_shape}
use Rattle.sb_update.specs.sb_specs_Update.{is_held_by}

-- A superblock with the new shape alone: all that it said of the reshape is zero.
abbrev pub with_new_shape : Sb → Sb
with_new_shape sb = record sb {
  feature_map = bit_and sb.feature_map (2 ^ 32 - 1 - (4 + 32));
  level = sb.new_level;
  layout = sb.new_layout;
  chunksize = sb.new_chunk;
  new_level = 0;
  reshape_position = 0;
  delta_disks = pos 0;
  new_layout = 0;
  new_chunk = 0;
}

-- what such a superblock says of the array, in which the first one had a reshape
pub record HasEnded (former newest : Sb) : Type 0 where
  pub still : is_reshaping newest ≡ false
  pub shape : shape_of newest ≡ final_shape former
  pub size : newest.size ≡ former.size
  pub clean : newest.resync_offset ≡ former.resync_offset

-- the slot holds a role from this one on
abbrev pub holds_from : List Role → ℕ → ℕ → Bool
holds_from roles disks slot = list_any (is_held_by slot) (drop disks roles)

-- then it becomes a spare
abbrev pub dropped_give : List Role → ℕ → ℕ → Give
dropped_give roles disks slot = if holds_from roles disks slot then Spare else Same

-- the update that ends a reshape: who holds a role that the new shape hasn't becomes a spare
abbrev pub ending : Members → Change
ending members = record {
  shared = with_new_shape members.newest;
  gives = tabulate 32 (dropped_give members.roles members.newest.raid_disks);
  added = None;
}
