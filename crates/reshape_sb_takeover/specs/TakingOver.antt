-- The change that takes a level over, and what the superblocks say then.
use Rattle.std.specs.Prelude.{◌≡◌, ◌⊎◌, ℕ, ◌-◌, ◌==◌, true, false, replicate, slice_set, if◌then◌else◌, Some, None}
use Rattle.reshape_begin_end.specs.raid_types_the_Shape.{Shape}
use Rattle.reshape_begin_end.specs.raid_types_the_Role_TheVariants.{Whole}
use Rattle.reshape_begin_end.specs.sb_codec_the_Sb.{Sb}
use Rattle.reshape_begin_end.specs.reshape_plan_Plans.{taken_up}
use Rattle.reshape_begin_end.specs.sb_specs_the_Give.{Give}
use Rattle.reshape_begin_end.specs.sb_specs_the_Give_TheVariants.{Same, Spare}
use Rattle.reshape_begin_end.specs.sb_specs_the_Give_TheVariants as give
use Rattle.reshape_begin_end.specs.sb_specs_the_Change.{Change}
use Rattle.reshape_begin_end.specs.sb_specs_the_Members.{Members}
use Rattle.reshape_begin_end.specs.sb_specs_Reading.{is_reshaping, shape_of, role_state}
use Rattle.reshape_begin_end.specs.sb_specs_Reads.{has_spare}
use Rattle.reshape_begin_end.specs.stripe_row_Rows.{reading_of}
use Rattle.reshape_begin_end.specs.crash_safety_laws_Updates.{planned_view}

-- A superblock with the level, the layout and the disk count of this shape. The chunk stays.
abbrev pub with_level : Shape → Sb → Sb
with_level to sb = record sb { level = to.level; layout = to.layout; raid_disks = to.disks }

-- what such a superblock says of the array, which was as in the first one
pub record IsTakenTo (former : Sb) (to : Shape) (newest : Sb) : Type 0 where
  pub still : is_reshaping newest ≡ false
  pub shape : shape_of newest ≡ to
  pub size : newest.size ≡ former.size
  pub clean : newest.resync_offset ≡ former.resync_offset

-- Level 5 can be taken over to level 6, where the slot is a spare: it gets the last role, Q.
pub record CanTakeUp (m : Members) (to : Shape) (slot : ℕ) : Type 0 where
  pub five : (shape_of m.newest).level ≡ 5
  pub shape : to ≡ taken_up (shape_of m.newest)
  pub spare : has_spare m.spares slot ≡ true

-- Level 6 can be taken over to level 5, where the slot holds the last role, whole: it becomes a spare.
pub record CanTakeDown (m : Members) (to : Shape) (slot : ℕ) : Type 0 where
  pub five : to.level ≡ 5
  pub shape : shape_of m.newest ≡ taken_up to
  pub last : role_state (reading_of m) to.disks ≡ Whole slot

abbrev pub CanTakeOver : Members → Shape → ℕ → Type 0
CanTakeOver m to slot = CanTakeUp m to slot ⊎ CanTakeDown m to slot

-- what the slot gets: at level 6 the last role, which it recovers from the first row on
abbrev pub level_give : Shape → Give
level_give to = if to.level == 6 then give.Role (to.disks - 1) (Some 0) else Spare

-- the update that takes the level over
abbrev pub taking_over : Members → Shape → ℕ → Change
taking_over m to slot = record { shared = with_level to m.newest; gives = slice_set (replicate 32 Same) slot (level_give to); added = None }

-- the members as it plans them
abbrev pub taken_plan : Members → Shape → ℕ → Members
taken_plan m to slot = planned_view m (taking_over m to slot) m.lost
