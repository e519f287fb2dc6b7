-- What an array tells of itself.
use Rattle.std.specs.Prelude.{◌≡◌, ℕ, zero, suc, ◌+◌, ◌-◌, ◌*◌, ◌/◌, min, slice_index_or, Option, Some, None}
use Rattle.crash_role_laws.specs.raid_types_the_Role.{Role}
use Rattle.crash_role_laws.specs.raid_types_the_Role_TheVariants.{Recovering}
use Rattle.crash_role_laws.specs.raid_types_the_Status.{Status}
use Rattle.crash_role_laws.specs.raid_types_Search.{count_below}
use Rattle.crash_role_laws.specs.sb_specs_the_Members.{Members}
use Rattle.crash_role_laws.specs.sb_specs_Reading.{shape_of, is_clean, role_state}
use Rattle.crash_role_laws.specs.sb_specs_Reads.{has_spare}
use Rattle.crash_role_laws.specs.stripe_row_Rows.{reading_of}
use Rattle.array_members.specs.declared.work.Work.{Work}
use Rattle.array_members.specs.Whole.{list_size}
use Rattle.array_members.specs.Placed.{places_of, is_unassigned}
use Rattle.array_members.specs.Parts.{Parts}

-- the stripes of the array
abbrev pub stripes_of : Members → ℕ
stripes_of members = members.newest.size / (shape_of members.newest).chunk

-- how many stripes of the role are rebuilt
abbrev pub rebuilt_of : Work → ℕ → ℕ
rebuilt_of work role = slice_index_or work.rebuilt role 0

-- the roles that no slot holds, and the spares
abbrev pub vacant_count : Members → ℕ
vacant_count members = count_below (shape_of members.newest).disks (is_unassigned (reading_of members))

abbrev pub spare_count : Members → ℕ
spare_count members = count_below 32 (has_spare members.spares)

-- the steps of a pending resync: each stripe that it hasn't mended, and its end
abbrev pub resync_left : Option ℕ → Members → ℕ
resync_left None members = 0
resync_left (Some mended) members = stripes_of members - mended + 1

-- the steps of a role that a slot recovers: each of so many stripes that isn't rebuilt, and the end
abbrev pub role_left : ℕ → ℕ → Role → ℕ
role_left stripes rebuilt (Recovering slot) = stripes - rebuilt + 1
role_left stripes rebuilt state = 0

-- those of the first n roles
unfoldable pub recovery_left : Work → Members → ℕ → ℕ
recovery_left work members zero = 0
recovery_left work members (suc n) = recovery_left work members n + role_left (stripes_of members) (rebuilt_of work n) (role_state (reading_of members) n)

-- The steps that are left: of the resync, of the roles that slots recover, and, for each role beside them that there is a spare for, the step
-- that gives it, a step for each stripe, and the end.
abbrev pub left_of : Work → Members → ℕ
left_of work members =
    resync_left work.resync members + recovery_left work members (shape_of members.newest).disks
    + min (vacant_count members) (spare_count members) * (stripes_of members + 2)

-- this status tells the array as it is
pub record IsStatusFor {B : Type 0} (array : Parts B) (status : Status) : Type 0 where
  pub shape : status.shape ≡ shape_of array.members.newest
  pub target : status.target ≡ None
  pub position : status.position ≡ 0
  pub size : status.size ≡ array.members.newest.size
  pub length : status.length ≡ list_size (places_of array.members)
  pub visible : status.visible ≡ list_size (places_of array.members)
  pub clean : status.clean ≡ is_clean array.members.newest
  pub events : status.events ≡ array.members.newest.events
  pub left : status.left ≡ left_of array.work array.members
  pub roles : status.roles ≡ array.members.roles
  pub spares : status.spares ≡ array.members.spares
