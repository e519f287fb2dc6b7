-- Where the rows of a running array stand, by what its members say.
use Rattle.std.specs.Prelude.{◌≡◌, ◌≢◌, ◌⊎◌, ℕ, ◌<◌, ◌≤◌, Bool, false, not, length, map, unwrap_or, Some, is_some}
use Rattle.crash_role_laws.specs.raid_types_the_Shape.{Shape}
use Rattle.crash_role_laws.specs.raid_types_the_Role.{Role}
use Rattle.crash_role_laws.specs.raid_types_Shapes.{has_slot}
use Rattle.crash_role_laws.specs.sb_codec_the_Sb.{Sb}
use Rattle.crash_role_laws.specs.bank_Given.{Given, NeverFalls}
use Rattle.crash_role_laws.specs.sb_specs_the_Members.{Members}
use Rattle.crash_role_laws.specs.sb_specs_Reading.{Reading, is_reshaping, is_backward, shape_of, final_shape, role_count, role_state, rows_held, holder, data_offset_of}
use Rattle.crash_role_laws.specs.sb_specs_Outcome.{AreLive}
use Rattle.crash_role_laws.specs.stripe_row_Rows.{reading_of, is_missing, missing_count, role_without, members_without, IsHolder, HaveFailed}
use Rattle.crash_role_laws.specs.stripe_row_Writes.{AreApart}
use Rattle.crash_role_laws.specs.crash_views_Regions.{AreShapesFit}
use Rattle.array_members.specs.Whole.{Places}

-- each role has the slot that holds it, and its rows begin at that slot's data offset
abbrev pub places_by : Reading → Places
places_by r = record {
  shape = shape_of r.newest;
  size = r.newest.size;
  slot = λ role. unwrap_or (holder (role_state r role)) 0;
  offset = λ role. data_offset_of r (unwrap_or (holder (role_state r role)) 0);
}

abbrev pub places_of : Members → Places
places_of members = places_by (reading_of members)

-- no slot holds the role, whole or in part
abbrev pub is_unassigned : Reading → ℕ → Bool
is_unassigned r role = not (is_some (holder (role_state r role)))

-- every role is whole
abbrev pub AreWhole : Members → Type 0
AreWhole members = (role : ℕ) → role < role_count members.newest → is_missing (reading_of members) role ≡ false

-- The members of an array of one shape or of two: the shapes in force fit, and each role that a slot holds, whole or in part, has a slot of its own,
-- where its rows lie behind the superblock.
pub record IsPlaced (given : Given) (members : Members) : Type 0 where
  pub fit : AreShapesFit members.newest
  pub roles : length members.roles ≡ role_count members.newest
  pub holders : (role slot : ℕ) → holder (role_state (reading_of members) role) ≡ Some slot → IsHolder given (reading_of members) slot
  pub behind : (role slot : ℕ) → holder (role_state (reading_of members) role) ≡ Some slot → 10 ≤ data_offset_of (reading_of members) slot
  pub apart : AreApart (reading_of members)
  pub live : AreLive given members

-- the shape is one of those in force: that of the array, which is the old one while a reshape is active, or the one that will stand in the end
abbrev pub IsInForce : Sb → Shape → Type 0
IsInForce newest shape = (shape ≡ shape_of newest) ⊎ (shape ≡ final_shape newest)

-- The two superblocks say the same of a reshape: whether one is active, to which shape, which way, and how far it has come.
pub record HaveSameReshape (old new : Sb) : Type 0 where
  pub reshaping : is_reshaping new ≡ is_reshaping old
  pub final : final_shape new ≡ final_shape old
  pub position : new.reshape_position ≡ old.reshape_position
  pub backward : is_backward new ≡ is_backward old

-- What a call leaves of the members: these slots are lost, and each of them held a role and has failed in the call.
pub record AreLost (given : Given) (shape : Shape) (old new : Members) (lost : ℕ) (before after : ℕ → ℕ) : Type 0 where
  pub members : new ≡ members_without lost old
  pub kept : lost ≡ 0 → new ≡ old
  pub failed : HaveFailed (reading_of old) shape.disks lost before after
  pub missing : lost ≢ 0 → 0 < missing_count (reading_of new) shape
  pub placed : IsPlaced given new
  pub never_falls : NeverFalls before after

-- no slot that holds a role was lost
abbrev pub AreUnlost : Members → Type 0
AreUnlost members = (role slot : ℕ) → holder (role_state (reading_of members) role) ≡ Some slot → has_slot members.lost slot ≡ false

-- each role that has a slot had it before: roles are only lost
abbrev pub AreStillHeld : Members → Members → Type 0
AreStillHeld old new = (role slot : ℕ) → holder (role_state (reading_of new) role) ≡ Some slot → holder (role_state (reading_of old) role) ≡ Some slot

-- the members say the same of the array, and some roles may have lost their slots
pub record AreLess (lost : ℕ) (old new : Members) : Type 0 where
  pub reshape : HaveSameReshape old.newest new.newest
  pub shape : shape_of new.newest ≡ shape_of old.newest
  pub size : new.newest.size ≡ old.newest.size
  pub roles : new.roles ≡ map (role_without lost) old.roles
  pub offsets : (slot : ℕ) → data_offset_of (reading_of new) slot ≡ data_offset_of (reading_of old) slot
  pub rows : (state : Role) → rows_held (reading_of new) state ≡ rows_held (reading_of old) state
