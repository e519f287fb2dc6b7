-- Kinds of updates, by what each owes of its change and of the view that it plans.
use Rattle.std.specs.Prelude.{◌≡◌, ◌⊎◌, ℕ, ◌+◌, ◌^◌, ◌<◌, ◌≤◌, Bool, true, false, List, replicate, slice_index_or, Option, Some, None, ⊤}
use Rattle.crash_views.specs.raid_types_the_Span.{Span}
use Rattle.crash_views.specs.bank_the_Operation.{Operation}
use Rattle.crash_views.specs.bank_Given.{Given}
use Rattle.crash_views.specs.bank_Tape.{disk}
use Rattle.crash_views.specs.raid_types_Shapes.{has_slot}
use Rattle.crash_views.specs.raid_types_the_Role_TheVariants.{Whole, Missing}
use Rattle.crash_views.specs.sb_specs_the_Give_TheVariants.{Same, Spare}
use Rattle.crash_views.specs.sb_specs_the_Give_TheVariants as give
use Rattle.crash_views.specs.sb_specs_the_Change.{Change}
use Rattle.crash_views.specs.sb_specs_the_Members.{Members}
use Rattle.crash_views.specs.sb_specs_Reading.{Scope, role_count, holder}
use Rattle.crash_views.specs.sb_specs_Reads.{has_spare}
use Rattle.crash_views.specs.sb_specs_Update.{give_of, is_recovery}
use Rattle.crash_views.specs.sb_specs_Updating.{planned_newest}
use Rattle.crash_views.specs.sb_specs_Outcome.{live_set}
use Rattle.crash_views.specs.sb_specs_Stages.{AreLeft}
use Rattle.crash_views.specs.sb_specs_Plans.{IsFitChange}
use Rattle.crash_views.specs.sb_read_laws_Said.{AreSparesFit}
use Rattle.crash_views.specs.stripe_row_Rows.{members_without}
use Rattle.crash_views.specs.Regions.{AreShapesFit, DoWithout}
use Rattle.crash_views.specs.Views.{Disk, Ledger, IsSettled, IsViewRight}
use Rattle.crash_views.specs.Windows.{moved_past}
use Rattle.crash_safety_laws.specs.Marking.{marking}
use Rattle.crash_safety_laws.specs.Held.{IsHeldBy}
use Rattle.crash_safety_laws.specs.Rounds.{IsHeldSince}
use Rattle.crash_safety_laws.specs.Safety.{HasRoomLeft}
use Rattle.crash_safety_laws.specs.Steady.{IsSteady, IsSafeNow, IsSafeStretch, AreGoneTold}
use Rattle.crash_safety_laws.specs.Changing.{IsChanged, IsFitUpdate, IsSafeChange}

-- ---- updates in which each slot stays what it is

-- no slot is given anything, and there are as many roles as before
pub record IsKeepingAll (old : Members) (change : Change) : Type 0 where
  pub none : change.added ≡ None
  pub size : change.shared.size ≡ old.newest.size
  pub count : role_count change.shared ≡ role_count old.newest
  pub same : (s : ℕ) → give_of change.gives s ≡ Same

-- Such an update keeps the array safe where the members are a right view with what the change says of the array, and what is missing in the end is told.
abbrev pub KeptStaysSafe : (sound : Type 0) → Type 0
KeptStaysSafe sound = (scope : Scope) (given : Given) (told more : Ledger) (change : Change) (old new : Members) (before after : List Operation)
    → IsChanged ⊤ given change old new before after → IsKeepingAll old change → HasRoomLeft old before after → AreGoneTold more new
    → ((slot number : ℕ) → told.carried slot number ≡ true → more.carried slot number ≡ true)
    → (IsSteady sound scope given told old (disk given.start before) → IsViewRight sound scope given more (record old { newest = change.shared }) (disk given.start before))
    → IsSafeNow sound scope given told old (disk given.start before) → IsSafeChange sound scope given told more new before after

-- ---- the mark

-- What a mark needs besides: the roles that are missing at its end are told, a dirty mark is told unsettled, and at a clean one the rows are
-- settled, where the array can do without the roles that it misses.
pub record IsMarkable (sound : Type 0) (scope : Scope) (clean : Bool) (told : Ledger) (old new : Members) (d : Disk) : Type 0 where
  pub gone : AreGoneTold told new
  pub unclean : clean ≡ false → told.unclean ≡ true
  pub settled : clean ≡ true → DoWithout old → sound → IsSettled scope old told.values d

-- A mark, in which slots may be lost, keeps the array safe: of one shape or of two.
abbrev pub MarkStaysSafe : (sound : Type 0) → Type 0
MarkStaysSafe sound = (scope : Scope) (given : Given) (told : Ledger) (clean : Bool) (old new : Members) (before after : List Operation)
    → IsChanged ⊤ given (marking old clean) old new before after → HasRoomLeft old before after → IsMarkable sound scope clean told old new (disk given.start before)
    → IsSafeNow sound scope given told old (disk given.start before) → IsSafeStretch sound scope given told new before after

-- ---- the position

-- the update that records the position behind a window
abbrev pub recording : Span → Members → Change
recording span members = record { shared = (moved_past span members).newest; gives = replicate 32 Same; added = None }

-- It keeps the array safe where the view that is held is right with the position moved, as the copied window leaves it.
abbrev pub RecordStaysSafe : (sound : Type 0) → Type 0
RecordStaysSafe sound = (scope : Scope) (given : Given) (told : Ledger) (span : Span) (old new : Members) (before after : List Operation)
    → IsChanged ⊤ given (recording span old) old new before after → HasRoomLeft old before after → AreGoneTold told new
    → ((steady : IsSteady sound scope given told old (disk given.start before)) → IsViewRight sound scope given told (moved_past span steady.former) (disk given.start before))
    → IsSafeNow sound scope given told old (disk given.start before) → IsSafeStretch sound scope given told new before after

-- ---- changes that are fit

-- a spare gets a role that no slot holds but lost ones, whole or with a recovery offset
abbrev pub IsGivenTo : Members → Change → ℕ → Type 0
IsGivenTo old change s = (role : ℕ) × (recovery : Option ℕ) × (give_of change.gives s ≡ give.Role role recovery) × (has_spare old.spares s ≡ true) × (role < role_count change.shared)
    × ((t : ℕ) → has_slot old.lost t ≡ false → holder (slice_index_or old.roles role Missing) ≡ Some t → ⊥)

-- the holder of a role gets another recovery offset
abbrev pub IsMovedOn : Members → Change → ℕ → Type 0
IsMovedOn old change s = (role : ℕ) × (offset : ℕ) × (give_of change.gives s ≡ give.Role role (Some offset)) × (holder (slice_index_or old.roles role Missing) ≡ Some s)

-- or it stays what it is
abbrev pub IsTakenBy : Members → Change → ℕ → Type 0
IsTakenBy old change s = (give_of change.gives s ≡ Same) ⊎ (IsGivenTo old change s ⊎ IsMovedOn old change s)

-- Spares get vacant roles, each another one, of which one at most has a recovery offset; no role is dropped, and the size stays. So it is where the array
-- is marked, where a position is recorded, where a reshape begins, where a rebuild begins and goes on, and in a takeover to level 6.
pub record IsTaking (old : Members) (change : Change) : Type 0 where
  pub none : change.added ≡ None
  pub size : change.shared.size ≡ old.newest.size
  pub count : role_count old.newest ≤ role_count change.shared
  pub each : (s : ℕ) → IsTakenBy old change s
  pub apart : (s t role : ℕ) (a b : Option ℕ) → give_of change.gives s ≡ give.Role role a → give_of change.gives t ≡ give.Role role b → s ≡ t
  pub one : (s t : ℕ) → is_recovery (give_of change.gives s) ≡ true → is_recovery (give_of change.gives t) ≡ true → s ≡ t

abbrev pub TakingIsFit : Type 0
TakingIsFit = (scope : Scope) (former old : Members) (change : Change) (d : Disk) → IsHeldSince scope former old d → IsTaking old change → IsFitUpdate old change

-- A slot stays what it is, or it becomes a spare, where it holds a role that is dropped and is whole.
abbrev pub IsDroppedBy : Members → Change → ℕ → Type 0
IsDroppedBy old change s = (give_of change.gives s ≡ Same) ⊎ ((give_of change.gives s ≡ Spare) × (role : ℕ) × (slice_index_or old.roles role Missing ≡ Whole s))

-- Holders of roles become spares, and the roles of the others, of the slots that aren't lost, are below the new count. So it is where a reshape ends, and in a
-- takeover to level 5.
pub record IsDropping (old : Members) (change : Change) : Type 0 where
  pub none : change.added ≡ None
  pub size : change.shared.size ≡ old.newest.size
  pub each : (s : ℕ) → IsDroppedBy old change s
  pub below : (s role : ℕ) → has_slot old.lost s ≡ false → give_of change.gives s ≡ Same → holder (slice_index_or old.roles role Missing) ≡ Some s → role < role_count change.shared

abbrev pub DroppingIsFit : Type 0
DroppingIsFit = (scope : Scope) (former old : Members) (change : Change) (d : Disk) → IsHeldSince scope former old d → IsDropping old change → IsFitUpdate old change

-- What is fit so makes a change that fits the superblocks that are held, for the slots that are left, and its new spares are fit.
abbrev pub FitUpdateIsFitChange : Type 0
FitUpdateIsFitChange = (scope : Scope) (former : Members) (gone left : ℕ) (change : Change) (d : Disk) (held : IsHeldBy scope former d) → IsFitUpdate (members_without gone former) change
    → AreShapesFit (planned_newest change.shared former.newest) → former.newest.events + 1 < 2 ^ 62 → AreLeft (live_set (members_without gone former) change) (members_without gone former).lost left
    → IsFitChange held.known (members_without gone former).lost left (members_without gone former) change × AreSparesFit left (members_without gone former) change
