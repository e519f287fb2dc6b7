-- What an update makes of the members, whatever it changes of the array and gives to its slots, and what is read of an image in it.
use Rattle.std.specs.Prelude.{◌≡◌, ◌⊎◌, ℕ, ◌+◌, ◌<◌, ◌≤◌, true, false, List, length, if◌then◌else◌, Option, Some, None, option_map}
use Rattle.crash_views.specs.raid_types_Search.{tabulate}
use Rattle.crash_views.specs.raid_types_Shapes.{has_slot}
use Rattle.sb_update_laws.specs.sb_codec_the_Sb.{Sb}
use Rattle.crash_views.specs.bank_Given.{Given}
use Rattle.crash_views.specs.bank_Tape.{Contents}
use Rattle.crash_views.specs.sb_specs_the_Give.{Give}
use Rattle.crash_views.specs.sb_specs_the_Change.{Change}
use Rattle.crash_views.specs.sb_specs_the_Members.{Members}
use Rattle.crash_views.specs.raid_types_Sectors.{Sector}
use Rattle.crash_views.specs.sb_specs_Reading.{Scope, Reading, reading, is_reshaping, is_backward, shape_of, final_shape, list_length, role_state, rows_held, holder, data_offset_of}
use Rattle.crash_views.specs.sb_specs_Update.{with_give, give_of, own_in, planned_role}
use Rattle.crash_views.specs.sb_specs_Updating.{planned_newest}
use Rattle.crash_views.specs.sb_specs_Outcome.{planned_roles, planned_spares}
use Rattle.crash_views.specs.sb_specs_Rounds.{IsReadAsPlanned}
use Rattle.crash_views.specs.sb_read_laws_Said.{AreSaidAsPlanned}
use Rattle.crash_views.specs.sb_specs_Reads.{SaysSame}
use Rattle.crash_views.specs.stripe_row_Rows.{reading_of, is_missing, held_slot}
use Rattle.crash_views.specs.history_Stands.{shape_for}
use Rattle.crash_views.specs.raid_types_the_Span.{Span}
use Rattle.crash_views.specs.reshape_geometry_Geometry as geometry
use Rattle.crash_views.specs.sb_specs_Reading.{next_window}
use Rattle.crash_views.specs.bank_backup_Section.{names_span}
use Rattle.crash_views.specs.Regions.{open_by, ArePlaced, IsReadOf}
use Rattle.crash_views.specs.Views.{Disk, Ledger, IsViewRight, IsSeenRight}
use Rattle.crash_views.specs.Windows.{IsSomewhere, IsWrittenAt, IsUpdating, moved_past, ListStands, RowsStand}
use Rattle.crash_safety_laws.specs.Steady.{AreGoneTold}

-- the superblocks of the slots, each with what it is given
abbrev pub given_own : List Give → List (Option Sb) → List (Option Sb)
given_own gives own = tabulate 32 (λ slot. option_map (with_give (give_of gives slot)) (own_in own slot))

-- the members as an update plans them, where these slots are named lost
abbrev pub planned_view : Members → Change → ℕ → Members
planned_view members change named = record {
  newest = planned_newest change.shared members.newest;
  own = given_own change.gives members.own;
  roles = planned_roles members change named;
  spares = planned_spares members change named;
  lost = named;
}

-- An image that reads as planned by a round of an update is read of the members as it plans them, with the lost slots named that were named by then:
-- whether the change is a mark, a position, another shape or a role that is given or dropped.
abbrev pub PlannedIsRead : Type 0
PlannedIsRead = (scope : Scope) (known : ℕ) (members : Members) (change : Change) (before live last : ℕ) (c : Contents) → (r : IsReadAsPlanned scope members change before live last c)
    → ((s : ℕ) → has_slot r.left s ≡ true → (s < 32) × (sb : Sb) × (own_in members.own s ≡ Some sb))
    → AreSaidAsPlanned scope known r.named r.left members change r.newest r.own
    → IsReadOf scope (planned_view members change r.named) r.reads.found

-- ---- views that lose roles

-- The one view says of the array what the other does, and has no more: a role that a slot holds in it is as whole there, with the same rows
-- at the same place.
pub record IsLessView (m view : Members) : Type 0 where
  pub array : SaysSame m.newest view.newest
  pub roles : length view.roles ≡ length m.roles
  pub states : (role slot : ℕ) → holder (role_state (reading_of view) role) ≡ Some slot → role_state (reading_of view) role ≡ role_state (reading_of m) role
  pub rows : (role : ℕ) → rows_held (reading_of view) (role_state (reading_of view) role) ≡ rows_held (reading_of m) (role_state (reading_of view) role)
  pub offsets : (role slot : ℕ) → holder (role_state (reading_of view) role) ≡ Some slot → data_offset_of (reading_of view) slot ≡ data_offset_of (reading_of m) slot
  pub missing : (role : ℕ) → is_missing (reading_of m) role ≡ true → is_missing (reading_of view) role ≡ true

-- Where the one is right, the other is, if what it misses is told.
abbrev pub LessStaysRight : (sound : Type 0) → Type 0
LessStaysRight sound = (scope : Scope) (given : Given) (told : Ledger) (m view : Members) (d : Disk) → IsLessView m view → ArePlaced scope given view → AreGoneTold told view
    → IsViewRight sound scope given told m d → IsViewRight sound scope given told view d

-- ---- an update with two ledgers

-- An image is read as a view that is right by one ledger before an update and by another as it plans: a change of the list's length stands between.
pub record IsPlannedRight (scope : Scope) (given : Given) (told : Ledger) (plan : Members) (view : Members) : Type 0 where
  pub less : IsLessView plan view
  pub placed : ArePlaced scope given view
  pub gone : AreGoneTold told view

abbrev pub IsReadInUpdate : Scope → Given → Ledger → Ledger → Members → Members → Contents → Type 0
IsReadInUpdate scope given before after former plan c =
    ((view : Members) × (r : Reading) × (reading scope c ≡ Some r) × IsReadOf scope view r × IsPlannedRight scope given before former view)
    ⊎ ((view : Members) × (r : Reading) × (reading scope c ≡ Some r) × IsReadOf scope view r × IsPlannedRight scope given after plan view)

-- Where the array is right by the former superblocks, by the one ledger, and by those that the update plans, by the other, each image in the update is seen
-- right by one of them.
abbrev pub UpdatesAreSeenRight : (sound : Type 0) → Type 0
UpdatesAreSeenRight sound = (scope : Scope) (given : Given) (before after : Ledger) (former plan : Members) (d e : Disk) (c : Contents) → IsSomewhere d → IsUpdating scope d e
    → IsViewRight sound scope given before former d → IsViewRight sound scope given after plan d → IsReadInUpdate scope given before after former plan c
    → IsSeenRight sound scope given before e c ⊎ IsSeenRight sound scope given after e c

-- ---- an update that begins or ends a reshape

-- Each sector of the one list is placed by the same shape as in the other.
pub record ArePlacedAlike (m plan : Members) : Type 0 where
  pub within : list_length plan.newest ≤ list_length m.newest
  pub shapes : (x : ℕ) → x < list_length plan.newest → shape_for plan.newest x ≡ shape_for m.newest x
  pub held : (role row slot : ℕ) → held_slot (reading_of plan) role row ≡ Some slot → held_slot (reading_of m) role row ≡ Some slot
  pub offsets : (role row slot : ℕ) → held_slot (reading_of plan) role row ≡ Some slot → data_offset_of (reading_of plan) slot ≡ data_offset_of (reading_of m) slot

-- So a list that stood stands on, as a reshape begins at its first position, or ends at its last.
abbrev pub AlikeStands : Type 0
AlikeStands = (m plan : Members) (c : Contents) (list : ℕ → Sector) → ArePlacedAlike m plan
    → (ListStands None m c list → ListStands None plan c list) × (RowsStand None m c list → RowsStand None plan c list)

-- the first position of a reshape, and the last
abbrev pub IsAtStart : Sb → Type 0
IsAtStart newest = newest.reshape_position ≡ (if is_backward newest then list_length newest else 0)

abbrev pub IsAtEnd : Sb → Type 0
IsAtEnd newest = newest.reshape_position ≡ (if is_backward newest then 0 else list_length newest)

-- At the first each sector is placed by the old shape, and at the last by the new one.
abbrev pub EndsPlaceAll : Type 0
EndsPlaceAll = (newest : Sb) (x : ℕ) → is_reshaping newest ≡ true → x < list_length newest
    → (IsAtStart newest → shape_for newest x ≡ shape_of newest) × (IsAtEnd newest → shape_for newest x ≡ final_shape newest)

-- ---- behind a window, and past the end

-- A header that names a window has no active section once the position has moved past it.
abbrev pub PastWindowsArePlain : Type 0
PastWindowsArePlain = (scope : Scope) (given : Given) (m : Members) (span : Span) (header : Sector) → ArePlaced scope given m → next_window m.newest ≡ Some span → names_span header span ≡ true
    → open_by scope (moved_past span m).newest header ≡ None

-- the place of a role in a row behind those of the list, by the new shape
pub record IsPastPlace (m : Members) (s k : ℕ) : Type 0 where
  pub role : ℕ
  pub row : ℕ
  pub held : holder (role_state (reading_of m) role) ≡ Some s
  pub past : (geometry.rows (final_shape m.newest) 0 (list_length m.newest)).hi ≤ row
  pub place : k ≡ data_offset_of (reading_of m) s + row

-- Where a forward reshape has gone through the list, the rows past its end may be written.
abbrev pub ZeroingStaysRight : (sound : Type 0) → Type 0
ZeroingStaysRight sound = (scope : Scope) (given : Given) (told : Ledger) (m : Members) (d e : Disk) → IsSomewhere d → is_reshaping m.newest ≡ true → next_window m.newest ≡ None
    → IsAtEnd m.newest → IsWrittenAt (IsPastPlace m) d e → IsViewRight sound scope given told m d → IsViewRight sound scope given told m e

-- ---- a plan with more slots named

-- no role has two holders by the plan, among the slots that aren't these
abbrev pub HasOneHolder : Members → Change → ℕ → Type 0
HasOneHolder members change lost = (s t role : ℕ) → has_slot lost s ≡ false → has_slot lost t ≡ false → planned_role members.roles (give_of change.gives s) s ≡ Some role
    → planned_role members.roles (give_of change.gives t) t ≡ Some role → s ≡ t

-- A plan in which more slots are named lost has no more than one in which fewer are.
abbrev pub PlansLoseRoles : Type 0
PlansLoseRoles = (members : Members) (change : Change) (few more : ℕ) → ((s : ℕ) → has_slot few s ≡ true → has_slot more s ≡ true) → HasOneHolder members change few
    → IsLessView (planned_view members change few) (planned_view members change more)
