-- A reshape begins: the backup's header is cleared, and behind it the superblocks record the reshape.
use Rattle.std.specs.Prelude.{◌≡◌, ℕ, ◌++◌, Bool, false, not, ◌&&◌, nat_lt, List, [], ◌∷◌, Some, None}
use Rattle.sb_safe_updates.specs.raid_types_the_Shape.{Shape}
use Rattle.sb_safe_updates.specs.bank_the_Operation.{Operation}
use Rattle.sb_safe_updates.specs.bank_the_Operation_TheVariants.{Write}
use Rattle.sb_safe_updates.specs.bank_Given.{Given, IsFaulted}
use Rattle.sb_safe_updates.specs.sb_specs_the_Members.{Members}
use Rattle.sb_safe_updates.specs.sb_specs_Reading.{Scope}
use Rattle.sb_safe_updates.specs.sb_specs_Reads.{has_spare}
use Rattle.reshape_sb_updates.specs.bank_backup_Written.{cleared_header}
use Rattle.reshape_sb_updates.specs.bank_backup_Storing.{HasSomeOf, header_operations}
use Rattle.sb_safe_updates.specs.history_Stands.{backup_absent}
use Rattle.sb_safe_updates.specs.crash_safety_laws_Updates.{planned_view}
use Rattle.sb_safe_updates.specs.crash_safety_laws_Changing.{IsChanged}
use Rattle.reshape_sb_updates.specs.Beginning.{with_reshape, new_role, beginning}

-- the members as the update plans them that begins a reshape to this shape
abbrev pub begun_plan : Members → Shape → Members
begun_plan m to = planned_view m (beginning m to) m.lost

-- a spare that gets none of the new roles
abbrev pub is_idle_spare : List ℕ → ℕ → ℕ → ℕ → Bool
is_idle_spare spares first disks slot = nat_lt slot 32 && (has_spare spares slot && not (nat_lt (new_role spares first slot) disks))

-- ---- the backup

-- The slot is the array's backup and no spare of it, and there it can keep what a reshape to this shape needs.
pub record IsBackupOf (scope : Scope) (m : Members) (to : Shape) (slot : ℕ) (uuid : List ℕ) : Type 0 where
  pub backup : scope.backup ≡ Some slot
  pub array : scope.uuid ≡ uuid
  pub apart : has_spare m.spares slot ≡ false
  pub room : backup_absent scope (with_reshape to m.newest) ≡ None

-- ---- what was done

-- The backup failed: nothing but its header was tried, and the members are as they were.
pub record IsUntouched (tells : Type 0) (slot : ℕ) (uuid : List ℕ) (old new : Members) (before after : List Operation) (faults then : ℕ → ℕ) : Type 0 where
  pub members : new ≡ old
  pub tried : tells → HasSomeOf (Write slot 0 (cleared_header uuid) ∷ []) before after
  pub failed : IsFaulted slot faults then

-- The header was cleared and flushed, and then the reshape recorded.
pub record IsBegunBehind (tells : Type 0) (given : Given) (slot : ℕ) (uuid : List ℕ) (to : Shape) (old new : Members) (before after : List Operation) : Type 0 where
  pub mid : List Operation
  pub cleared : tells → mid ≡ before ++ header_operations slot (cleared_header uuid)
  pub update : IsChanged tells given (beginning old to) old new mid after
