-- How the list stands on members of one shape or two, whichever header a stop leaves in the backup.
use Rattle.std.specs.Prelude.{◌≡◌, ◌≢◌, ◌⊎◌, ℕ, true, false, [], ◌∷◌}
use Rattle.crash_role_laws.specs.raid_types_Sectors.{Sector}
use Rattle.crash_role_laws.specs.raid_types_Shapes.{has_slot}
use Rattle.crash_role_laws.specs.bank_Tape.{Contents, IsIn}
use Rattle.crash_role_laws.specs.sb_specs_the_Members.{Members}
use Rattle.crash_role_laws.specs.sb_specs_Reading.{Scope}
use Rattle.crash_role_laws.specs.sb_specs_Outcome.{live_set}
use Rattle.crash_role_laws.specs.crash_views_Regions.{backup_of, open_by}
use Rattle.crash_role_laws.specs.crash_views_Views.{Disk, IsTailZero, AreSectionsAllowed}
use Rattle.crash_role_laws.specs.crash_views_Windows.{ListStands, RowsStand}
use Rattle.crash_role_laws.specs.crash_safety_laws_Marking.{marking}

-- Each sector that no active section covers stands as the list, and an active section has the list's sectors alone.
pub record StandsUnder (scope : Scope) (members : Members) (c : Contents) (d : Disk) (list : ℕ → Sector) : Type 0 where
  pub outside : (header : Sector) → IsIn (d (backup_of scope) 0) header → ListStands (open_by scope members.newest header) members c list
  pub sections : AreSectionsAllowed scope members (λ x. list x ∷ []) d

-- The row of each sector that none covers stands so, and the list is zero in the tail.
pub record RowsStandUnder (scope : Scope) (members : Members) (c : Contents) (d : Disk) (list : ℕ → Sector) : Type 0 where
  pub rows : (header : Sector) → IsIn (d (backup_of scope) 0) header → RowsStand (open_by scope members.newest header) members c list
  pub zeros : IsTailZero members.newest list

-- the slot has no part in the array, or is lost
abbrev pub IsIdle : Members → ℕ → Type 0
IsIdle members slot = (has_slot (live_set members (marking members false)) slot ≡ false) ⊎ (has_slot members.lost slot ≡ true)

-- nothing but superblocks of slots that aren't idle is written: a stop may leave nothing new of the rest
abbrev pub IsRestKept : Members → Disk → Disk → Type 0
IsRestKept members d e = (s k : ℕ) (v : Sector) → (k ≢ 8) ⊎ IsIdle members s → IsIn (e s k) v → IsIn (d s k) v
