-- The update that makes a recovering slot whole.
use Rattle.std.specs.Prelude.{◌≡◌, ℕ, true, List, None, ⊤}
use Rattle.crash_safety_laws.specs.bank_the_Operation.{Operation}
use Rattle.crash_safety_laws.specs.bank_Given.{Given}
use Rattle.crash_safety_laws.specs.bank_Tape.{EachMark, disk}
use Rattle.crash_safety_laws.specs.sb_specs_the_Change.{Change}
use Rattle.crash_safety_laws.specs.sb_specs_the_Members.{Members}
use Rattle.crash_safety_laws.specs.sb_specs_Reading.{Scope, role_count}
use Rattle.crash_safety_laws.specs.sb_specs_Outcome.{live_set, AreGivesOfLive}
use Rattle.crash_safety_laws.specs.sb_specs_Rounds.{round_at, IsInRounds, ArePast}
use Rattle.crash_safety_laws.specs.sb_specs_Stages.{AreFirstKept}
use Rattle.crash_safety_laws.specs.sb_update_laws_MakingWhole.{without_gives, IsMakingWhole}
use Rattle.crash_safety_laws.specs.crash_views_Views.{Disk, Ledger, IsViewRight}
use Rattle.crash_safety_laws.specs.Safety.{HasRoomLeft}
use Rattle.crash_safety_laws.specs.Steady.{IsSteady, IsSafeNow, AreGoneTold}
use Rattle.crash_safety_laws.specs.Updates.{planned_view}
use Rattle.crash_safety_laws.specs.Changing.{IsChanged, IsSafeChange}

-- What such an update says of itself: what each does, and its rounds, since no slot gets a recovery offset.
pub record IsMade (tells : Type 0) (given : Given) (change : Change) (old new : Members) (before after : List Operation) : Type 0 where
  pub changed : IsChanged tells given change old new before after
  pub rounds : AreFirstKept change.gives old.lost new.lost → EachMark tells given.start before after (IsInRounds old change old.lost (live_set old change) new.lost new.newest.events (disk given.start before))
  pub past : AreFirstKept change.gives old.lost new.lost → tells → ArePast old change old.lost (live_set old change) (disk given.start before) (round_at new.newest new.lost given.start after)

-- What it owes: the size and the count of roles stay; the members are right with what the change says of the array, the slot still recovering, by the one
-- ledger, and as planned, the slot whole, by the other; what either misses at the end is told, and each device number.
pub record IsMakable (sound : Type 0) (scope : Scope) (given : Given) (told more : Ledger) (change : Change) (slot role : ℕ) (old new : Members) (d : Disk) : Type 0 where
  pub making : IsMakingWhole old change slot role
  pub size : change.shared.size ≡ old.newest.size
  pub count : role_count change.shared ≡ role_count old.newest
  pub still : IsViewRight sound scope given told (planned_view old (without_gives change) old.lost) d
  pub right : IsViewRight sound scope given more (planned_view old change old.lost) d
  pub gone_still : AreGoneTold told (planned_view old (without_gives change) new.lost)
  pub gone : AreGoneTold more (planned_view old change new.lost)
  pub carried : (slot number : ℕ) → told.carried slot number ≡ true → more.carried slot number ≡ true

-- Then it keeps the array safe, whichever slots are lost in it: each image is seen as before it or with the slot still recovering by the one ledger, and with
-- the slot whole by the other.
abbrev pub MakingStaysSafe : (sound : Type 0) → Type 0
MakingStaysSafe sound = (scope : Scope) (given : Given) (told more : Ledger) (change : Change) (slot role : ℕ) (old new : Members) (before after : List Operation)
    → IsMade ⊤ given change old new before after → change.added ≡ None → AreGivesOfLive old change → HasRoomLeft old before after
    → (IsSteady sound scope given told old (disk given.start before) → IsMakable sound scope given told more change slot role old new (disk given.start before))
    → IsSafeNow sound scope given told old (disk given.start before) → IsSafeChange sound scope given told more new before after
