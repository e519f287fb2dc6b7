-- What a change has to be, so that its planned view keeps the roles that a new shape finds: it begins or ends a reshape, or takes a level over.
use Rattle.std.specs.Prelude.{◌≡◌, ℕ, ◌<◌, ◌≤◌, true, false, length, Option, Some, None}
use Rattle.crash_safety_laws.specs.raid_types_Sectors.{zero_sector}
use Rattle.crash_safety_laws.specs.raid_types_Shapes.{has_slot}
use Rattle.crash_safety_laws.specs.bank_Given.{Given}
use Rattle.crash_safety_laws.specs.bank_Tape.{Contents}
use Rattle.crash_safety_laws.specs.reshape_geometry_Geometry.{rows}
use Rattle.crash_safety_laws.specs.raid_types_the_Role_TheVariants.{Recovering}
use Rattle.crash_safety_laws.specs.sb_codec_the_Sb.{Sb}
use Rattle.crash_safety_laws.specs.reshape_plan_Plans.{taken_up}
use Rattle.crash_safety_laws.specs.sb_specs_the_Give_TheVariants as give
use Rattle.crash_safety_laws.specs.sb_specs_the_Change.{Change}
use Rattle.crash_safety_laws.specs.sb_specs_the_Members.{Members}
use Rattle.crash_safety_laws.specs.sb_specs_Reading.{Scope, is_reshaping, shape_of, final_shape, list_length, role_count, role_state, data_offset_of}
use Rattle.crash_safety_laws.specs.sb_specs_Update.{give_of, own_in}
use Rattle.crash_safety_laws.specs.sb_specs_Updating.{planned_newest}
use Rattle.crash_safety_laws.specs.sb_specs_Rounds.{IsReadAsPlanned}
use Rattle.crash_safety_laws.specs.sb_read_laws_Said.{AreSaidAsPlanned}
use Rattle.crash_safety_laws.specs.stripe_list_Full.{RowStands}
use Rattle.crash_safety_laws.specs.stripe_row_Rows.{reading_of, IsHolder}
use Rattle.crash_safety_laws.specs.history_Stands.{backup_absent}
use Rattle.crash_safety_laws.specs.crash_views_Regions.{AreShapesFit, ArePlaced, DoWithout}
use Rattle.crash_safety_laws.specs.crash_views_Views.{Disk, Ledger}
use Rattle.crash_safety_laws.specs.crash_views_Windows.{AreHoldersFlushed}
use Rattle.crash_safety_laws.specs.Updates.{planned_view, IsLessView, IsReadInUpdate, HasOneHolder, IsAtStart, IsAtEnd}
use Rattle.crash_safety_laws.specs.Steady.{AreGoneTold}
use Rattle.crash_reshape_laws.specs.Ends.{AreRolesKept, AreMissingKept, AreZeroed, IsBegun, IsEnded}
use Rattle.crash_reshape_laws.specs.Takeovers.{IsTakenUp, IsTakenDown}

-- each role that the change gives is this one, or a later one
abbrev pub GivesFrom : Change → ℕ → Type 0
GivesFrom change first = (slot role : ℕ) (recovery : Option ℕ) → give_of change.gives slot ≡ give.Role role recovery → first ≤ role

abbrev pub HasNoneRecovering : Members → Type 0
HasNoneRecovering m = (role slot : ℕ) → role_state (reading_of m) role ≡ Recovering slot → ⊥

-- The change leaves the rows of each member, and a clean mark or a dirty one.
pub record IsKeepingRows (m : Members) (change : Change) : Type 0 where
  pub size : change.shared.size ≡ m.newest.size
  pub clean : change.shared.resync_offset ≡ m.newest.resync_offset

-- Of the roles below those that it gives the plan has what there was, whatever slots are named lost; while a reshape is active none may recover.
abbrev pub PlansKeepRoles : Type 0
PlansKeepRoles = (m : Members) (change : Change) (named first : ℕ) → GivesFrom change first → change.shared.size ≡ m.newest.size → (is_reshaping m.newest ≡ true → HasNoneRecovering m)
    → AreRolesKept m (planned_view m change named) first first × AreMissingKept m (planned_view m change named) first

-- what the plan makes of the newest superblock, but for its role entries
abbrev pub newest_by : Members → Change → Sb
newest_by m change = planned_newest change.shared m.newest

-- a reshape begins: spares get the roles that the old shape hasn't
abbrev pub PlannedIsBegun : Type 0
PlannedIsBegun = (m : Members) (change : Change) (named : ℕ) → IsKeepingRows m change → is_reshaping m.newest ≡ false → is_reshaping (newest_by m change) ≡ true
    → shape_of (newest_by m change) ≡ shape_of m.newest → IsAtStart (newest_by m change) → GivesFrom change (shape_of m.newest).disks → IsBegun m (planned_view m change named)

-- it ends: no role that the new shape has is given, and none recovers
abbrev pub PlannedIsEnded : Type 0
PlannedIsEnded = (m : Members) (change : Change) (named : ℕ) → IsKeepingRows m change → is_reshaping m.newest ≡ true → is_reshaping (newest_by m change) ≡ false
    → shape_of (newest_by m change) ≡ final_shape m.newest → IsAtEnd m.newest → GivesFrom change (final_shape m.newest).disks → HasNoneRecovering m
    → (DoWithout (planned_view m change named) → DoWithout m) → IsEnded m (planned_view m change named)

-- a takeover to level 6: at most Q's role is given, to be recovered from its first row on
abbrev pub PlannedIsTakenUp : Type 0
PlannedIsTakenUp = (m : Members) (change : Change) (named : ℕ) → IsKeepingRows m change → is_reshaping m.newest ≡ false → is_reshaping (newest_by m change) ≡ false
    → (shape_of m.newest).level ≡ 5 → shape_of (newest_by m change) ≡ taken_up (shape_of m.newest) → length m.roles ≡ (shape_of m.newest).disks
    → ((slot role : ℕ) (recovery : Option ℕ) → give_of change.gives slot ≡ give.Role role recovery → (role ≡ (shape_of m.newest).disks) × (recovery ≡ Some 0))
    → IsTakenUp m (planned_view m change named)

-- a takeover to level 5: no role that it has is given
abbrev pub PlannedIsTakenDown : Type 0
PlannedIsTakenDown = (m : Members) (change : Change) (named : ℕ) → IsKeepingRows m change → is_reshaping m.newest ≡ false → is_reshaping (newest_by m change) ≡ false
    → (shape_of (newest_by m change)).level ≡ 5 → shape_of m.newest ≡ taken_up (shape_of (newest_by m change)) → GivesFrom change (shape_of (newest_by m change)).disks
    → IsTakenDown m (planned_view m change named)

-- ---- views with fewer roles

-- A view that has no more than one that is placed is placed.
abbrev pub LessIsPlaced : Type 0
LessIsPlaced = (scope : Scope) (given : Given) (m view : Members) → IsLessView m view → ArePlaced scope given m → ArePlaced scope given view

-- An image that reads as planned by a round of an update is read so in it, by what is told with the plan: with those slots named lost that were by then.
abbrev pub PlannedIsSeen : Type 0
PlannedIsSeen = (scope : Scope) (given : Given) (known : ℕ) (told after : Ledger) (former members : Members) (change : Change) (before live last : ℕ) (c : Contents)
    → (r : IsReadAsPlanned scope members change before live last c) → ((s : ℕ) → has_slot r.left s ≡ true → (s < 32) × (sb : Sb) × (own_in members.own s ≡ Some sb))
    → AreSaidAsPlanned scope known r.named r.left members change r.newest r.own → HasOneHolder members change members.lost
    → ArePlaced scope given (planned_view members change members.lost) → AreGoneTold after (planned_view members change r.named)
    → IsReadInUpdate scope given told after former (planned_view members change members.lost) c

-- ---- zeroed rows

-- Where the rows past those of the list stand as zeros, flushed, they are zeroed.
abbrev pub FlushedIsZeroed : Type 0
FlushedIsZeroed = (scope : Scope) (given : Given) (m : Members) (c : Contents) (d : Disk) → ArePlaced scope given m → is_reshaping m.newest ≡ true → AreHoldersFlushed m c d
    → ((row : ℕ) → (rows (final_shape m.newest) 0 (list_length m.newest)).hi ≤ row → row < m.newest.size → RowStands (reading_of m) c (final_shape m.newest) (λ x. zero_sector) row) → AreZeroed m d

-- ---- the plan is placed

-- a slot that is given a role has the rows of it behind its superblock, and isn't the backup
abbrev pub AreGivenFit : Scope → Given → Members → Change → ℕ → Type 0
AreGivenFit scope given m change named = (slot role : ℕ) (recovery : Option ℕ) → give_of change.gives slot ≡ give.Role role recovery
    → IsHolder given (reading_of (planned_view m change named)) slot × (10 ≤ data_offset_of (reading_of (planned_view m change named)) slot) × (scope.backup ≡ Some slot → ⊥)

-- Where the members are placed, the shapes that a change plans fit, and what it gives does, its plan is placed, whatever slots are named lost.
abbrev pub PlannedIsPlaced : Type 0
PlannedIsPlaced = (scope : Scope) (given : Given) (m : Members) (change : Change) (named : ℕ) → ArePlaced scope given m → change.shared.size ≡ m.newest.size
    → role_count change.shared ≡ role_count (newest_by m change) → AreShapesFit (newest_by m change) → backup_absent scope (newest_by m change) ≡ None → AreGivenFit scope given m change named
    → ArePlaced scope given (planned_view m change named)
