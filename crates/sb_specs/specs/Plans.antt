-- Which changes make a plan that fits.
use Rattle.std.specs.Prelude.{◌≡◌, ℕ, ◌<◌, true, false, find, List, [], Some, None}
use Rattle.reshape_geometry.specs.raid_types_Shapes.{has_slot}
use Rattle.sb_codec.specs.declared.sb.Sb.{Sb}
use Rattle.sb_specs.specs.declared.change.Give.{Give}
use Rattle.sb_specs.specs.declared.change.Give.TheVariants.{Same, Spare}
use Rattle.sb_specs.specs.declared.change.Give.TheVariants as give
use Rattle.sb_specs.specs.declared.change.Change.{Change}
use Rattle.sb_specs.specs.declared.members.Members.{Members}
use Rattle.bank.specs.raid_types_Sectors.{Sector}
use Rattle.sb_specs.specs.Reading.{Scope, is_recovering, role_count}
use Rattle.sb_specs.specs.Verdict.{judged_fields}
use Rattle.sb_specs.specs.Update.{give_of, own_in, is_recovery, planned_role, is_planned_spare, with_roles}
use Rattle.sb_specs.specs.Updating.{planned_newest}
use Rattle.sb_specs.specs.Held.{AreHeld}
use Rattle.sb_specs.specs.Stages.{IsFitPlan}

-- the newest superblock as an update plans it, where these slots were lost before it and those are lost now
abbrev pub next_newest : Members → Change → ℕ → ℕ → Sb
next_newest members change before lost =
    record (planned_newest change.shared members.newest) { dev_roles = with_roles members change before lost members.newest.dev_roles }

-- A slot that gets a role without a recovery offset is whole already.
abbrev pub KeepsRecovery : Give → Sb → Type 0
KeepsRecovery Same sb = Unit {0}
KeepsRecovery (give.Role role None) sb = is_recovering sb ≡ false
KeepsRecovery (give.Role role (Some offset)) sb = Unit {0}
KeepsRecovery Spare sb = Unit {0}

-- A change that fits: afterwards each role and each spare is at a slot that is written, no role has two holders or is past the last one,
-- and no field of the array is refused. The size stays. But for one slot that gets a recovery offset each one keeps its own.
pub record IsFitChange (known lost left : ℕ) (members : Members) (change : Change) : Type 0 where
  pub role : (s role : ℕ) → has_slot lost s ≡ false → planned_role members.roles (give_of change.gives s) s ≡ Some role → has_slot left s ≡ true
  pub below : (s role : ℕ) → has_slot lost s ≡ false → planned_role members.roles (give_of change.gives s) s ≡ Some role → role < role_count (planned_newest change.shared members.newest)
  pub spare : (s : ℕ) → has_slot lost s ≡ false → is_planned_spare members.spares change.added (give_of change.gives s) s ≡ true → has_slot left s ≡ true
  pub one_holder : (s t role : ℕ) → has_slot lost s ≡ false → has_slot lost t ≡ false → planned_role members.roles (give_of change.gives s) s ≡ Some role
      → planned_role members.roles (give_of change.gives t) t ≡ Some role → s ≡ t
  pub fields : find (λ f. f.1) (judged_fields (planned_newest change.shared members.newest) []) ≡ None
  pub size : change.shared.size ≡ members.newest.size
  pub written : (s : ℕ) → has_slot known s ≡ true → has_slot lost s ≡ false → has_slot left s ≡ true
  pub devices : (s : ℕ) (sb : Sb) → has_slot left s ≡ true → own_in members.own s ≡ Some sb → KeepsRecovery (give_of change.gives s) sb
  pub one : (s t : ℕ) → has_slot left s ≡ true → has_slot left t ≡ true → is_recovery (give_of change.gives s) ≡ true → is_recovery (give_of change.gives t) ≡ true → s ≡ t

-- The plan of such a change fits what is held.
abbrev pub FitChangeMakesFitPlan : Type 0
FitChangeMakesFitPlan = (scope : Scope) (known lost left before : ℕ) (members : Members) (change : Change) (d : ℕ → ℕ → List Sector)
    → AreHeld scope known lost members.newest members.own d → ((s : ℕ) → has_slot left s ≡ true → has_slot known s ≡ true) → IsFitChange known lost left members change
    → IsFitPlan scope lost members.newest (next_newest members change before lost) change.gives members.own left d
