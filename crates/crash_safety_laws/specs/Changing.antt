-- What any update of the superblocks keeps of an array of one shape or two, whichever slots are lost in it.
use Rattle.std.specs.Prelude.{◌≡◌, ◌⊎◌, ℕ, ◌<◌, true, false, List, None, Some, ⊤}
use Rattle.crash_views.specs.raid_types_Shapes.{has_slot}
use Rattle.sb_update_laws.specs.sb_codec_the_Sb.{Sb}
use Rattle.crash_views.specs.bank_the_Operation.{Operation}
use Rattle.crash_views.specs.bank_Given.{Given}
use Rattle.crash_views.specs.bank_Tape.{Contents, EachMark, disk}
use Rattle.crash_views.specs.sb_specs_the_Change.{Change}
use Rattle.crash_views.specs.sb_specs_the_Members.{Members}
use Rattle.crash_views.specs.sb_specs_Reading.{Scope, is_recovering, role_count}
use Rattle.crash_views.specs.sb_specs_Reads.{has_spare}
use Rattle.crash_views.specs.sb_specs_Update.{give_of, own_in, is_recovery, planned_role, is_planned_spare}
use Rattle.crash_views.specs.sb_specs_Updating.{IsUpdate, IsWrittenBy, AreNamed, IsLater, IsSomeLeft, RisesByOperations, planned_newest}
use Rattle.crash_views.specs.sb_specs_Outcome.{live_set, is_left, AreLive, AreStored, AreGivesOfLive, planned_roles, planned_spares}
use Rattle.crash_views.specs.sb_specs_Plans.{KeepsRecovery}
use Rattle.crash_views.specs.sb_specs_Rounds.{round_at}
use Rattle.crash_views.specs.sb_specs_Losing.{IsInTurns, ArePastTurns}
use Rattle.crash_views.specs.sb_specs_Crash.{IsWithin}
use Rattle.crash_views.specs.Views.{Disk, Ledger, IsViewRight, IsSeenRight}
use Rattle.crash_safety_laws.specs.Safety.{HasLiveSlot, HasMarkRoom, HasRoomLeft}
use Rattle.crash_safety_laws.specs.Steady.{AreDrawnSuperblocks, IsSteady, IsSafeNow, IsNamedNow, AreGoneTold}
use Rattle.crash_safety_laws.specs.Updates.{planned_view, HasOneHolder}

-- ---- an update

-- What an update of the superblocks says of itself, where no slot is added: the clauses of its contract.
pub record IsChanged (tells : Type 0) (given : Given) (change : Change) (old new : Members) (before after : List Operation) : Type 0 where
  pub update : IsUpdate tells (live_set old change) old.lost new.lost (IsWrittenBy old.newest change old.own) given.start before after
  pub named : IsSomeLeft (live_set old change) new.lost → AreNamed old change old.lost new.lost new.newest
  pub newest : IsLater (planned_newest change.shared old.newest) new.newest
  pub turns : EachMark tells given.start before after (IsInTurns old change old.lost (live_set old change) new.lost new.newest.events (disk given.start before))
  pub turned : tells → ArePastTurns old change old.lost (live_set old change) (disk given.start before) (round_at new.newest new.lost given.start after)
  pub rise : RisesByOperations tells (live_set old change) new.lost old.newest.events new.newest.events before after
  pub own : AreStored new.newest change.gives (is_left (live_set old change) new.lost) old.own new.own
  pub roles : new.roles ≡ planned_roles old change new.lost
  pub spares : new.spares ≡ planned_spares old change new.lost
  pub alive : AreLive given new
  pub stay : IsWithin old.lost new.lost
  pub live : (s : ℕ) → has_slot new.lost s ≡ true → has_slot old.lost s ≡ false → has_slot (live_set old change) s ≡ true

-- What a kind of update owes of its change, of the members as they are: it adds no slot and gives to live ones alone; of the slots that aren't lost
-- no role has two holders or is past the last one, none gets a role whole that still recovers, one at most gets a recovery offset, and one
-- that becomes a spare doesn't recover. The size stays. (That no field of the array is refused follows from the shapes that fit in the planned view.)
pub record IsFitUpdate (old : Members) (change : Change) : Type 0 where
  pub none : change.added ≡ None
  pub gives : AreGivesOfLive old change
  pub below : (s role : ℕ) → has_slot old.lost s ≡ false → planned_role old.roles (give_of change.gives s) s ≡ Some role → role < role_count (planned_newest change.shared old.newest)
  pub one_holder : HasOneHolder old change old.lost
  pub size : change.shared.size ≡ old.newest.size
  pub devices : (s : ℕ) (sb : Sb) → has_slot old.lost s ≡ false → own_in old.own s ≡ Some sb → KeepsRecovery (give_of change.gives s) sb
  pub one : (s t : ℕ) → has_slot old.lost s ≡ false → has_slot old.lost t ≡ false → is_recovery (give_of change.gives s) ≡ true → is_recovery (give_of change.gives t) ≡ true → s ≡ t
  pub spares : (s : ℕ) (sb : Sb) → has_slot old.lost s ≡ false → own_in old.own s ≡ Some sb → has_spare old.spares s ≡ false → is_planned_spare old.spares change.added (give_of change.gives s) s ≡ true
      → (is_recovering sb ≡ false) × (planned_role old.roles (give_of change.gives s) s ≡ None)

-- What is asked of an update: its change is fit, the view that it plans is right, by a ledger that may be another one, and what is missing at its
-- end is told there, as is each device number.
pub record IsPlannedSafe (sound : Type 0) (scope : Scope) (given : Given) (told more : Ledger) (change : Change) (old new : Members) (d : Disk) : Type 0 where
  pub fit : IsFitUpdate old change
  pub right : IsViewRight sound scope given more (planned_view old change old.lost) d
  pub gone : AreGoneTold more (planned_view old change new.lost)
  pub carried : (slot number : ℕ) → told.carried slot number ≡ true → more.carried slot number ≡ true

-- ---- what it leaves

-- whatever superblocks are drawn, the image is read as a view that is right by the one ledger or by the other
abbrev pub AreEitherRight : Type 0 → Scope → Given → Ledger → Ledger → Disk → Type 0
AreEitherRight sound scope given told more d = (c : Contents) → AreDrawnSuperblocks scope d c → IsSeenRight sound scope given told d c ⊎ IsSeenRight sound scope given more d c

-- no live slot is left, and each view is right by one of the two: nothing is written any more
pub record IsSpentByEither (sound : Type 0) (scope : Scope) (given : Given) (told more : Ledger) (members : Members) (d : Disk) : Type 0 where
  pub right : AreEitherRight sound scope given told more d
  pub none : HasLiveSlot members → ⊥

-- At each mark each image is seen right, by what was told before it or by what is told with it; and at its end the superblocks are held, each lost slot
-- that held a role is named in them, and the view is right by the latter, or no live slot is left.
pub record IsSafeChange (sound : Type 0) (scope : Scope) (given : Given) (told more : Ledger) (members : Members) (before after : List Operation) : Type 0 where
  pub marks : EachMark ⊤ given.start before after (AreEitherRight sound scope given told more)
  pub next : IsNamedNow sound scope given more members (disk given.start after) ⊎ IsSpentByEither sound scope given told more members (disk given.start after)

-- Any update keeps an array safe, whichever slots are lost in it.
abbrev pub ChangeStaysSafe : (sound : Type 0) → Type 0
ChangeStaysSafe sound = (scope : Scope) (given : Given) (told more : Ledger) (change : Change) (old new : Members) (before after : List Operation)
    → IsChanged ⊤ given change old new before after → HasMarkRoom old before after → IsPlannedSafe sound scope given told more change old new (disk given.start before)
    → IsSteady sound scope given told old (disk given.start before) → IsSafeChange sound scope given told more new before after

-- Where no live slot was left before it, nothing is written, and each image is seen as before.
abbrev pub SpentStaysSpent : (sound : Type 0) → Type 0
SpentStaysSpent sound = (scope : Scope) (given : Given) (told more : Ledger) (change : Change) (old new : Members) (before after : List Operation)
    → IsChanged ⊤ given change old new before after → change.added ≡ None → AreGivesOfLive old change → IsSpentByEither sound scope given told more old (disk given.start before)
    → IsSafeChange sound scope given told more new before after

-- So it is from either state. What an update owes is asked only where the superblocks are held and a live slot is left, and so is the room of the event
-- count.
abbrev pub SafeChangeStaysSafe : (sound : Type 0) → Type 0
SafeChangeStaysSafe sound = (scope : Scope) (given : Given) (told more : Ledger) (change : Change) (old new : Members) (before after : List Operation)
    → IsChanged ⊤ given change old new before after → change.added ≡ None → AreGivesOfLive old change → HasRoomLeft old before after
    → (IsSteady sound scope given told old (disk given.start before) → IsPlannedSafe sound scope given told more change old new (disk given.start before))
    → IsSafeNow sound scope given told old (disk given.start before) → IsSafeChange sound scope given told more new before after
