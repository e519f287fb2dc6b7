-- A call of `superblocks::update`, by the clauses of its contract.
use Rattle.std.specs.Prelude.{◌≡◌, ℕ, List, None}
use Rattle.crash_views.specs.bank_the_Operation.{Operation}
use Rattle.crash_views.specs.bank_Given.{Given}
use Rattle.crash_views.specs.bank_Tape.{EachMark, disk}
use Rattle.crash_views.specs.sb_specs_the_Change.{Change}
use Rattle.crash_views.specs.sb_specs_the_Members.{Members}
use Rattle.crash_views.specs.sb_specs_Updating.{IsUpdate, AreLosses, IsWrittenBy, AreNamed, IsLater, IsSomeLeft, RisesByOperations, planned_newest}
use Rattle.crash_views.specs.sb_specs_Outcome.{with_added, live_set, is_left, AreLive, AreStored, planned_roles, planned_spares}
use Rattle.crash_views.specs.sb_specs_Rounds.{round_at}
use Rattle.crash_views.specs.sb_specs_Losing.{IsInTurns, ArePastTurns}
use Rattle.crash_safety_laws.specs.Changing.{IsChanged}

-- the clauses update, named, newest, turns, turned, rise, own, roles, spares, live and losses, word for word
pub record HasUpdated (tells : Type 0) (given : Given) (change : Change) (old new : Members) (before after : List Operation) (faults faults' : ℕ → ℕ) : Type 0 where
  pub update : IsUpdate tells (live_set old change) (with_added old change.added).lost new.lost (IsWrittenBy (with_added old change.added).newest change (with_added old change.added).own) given.start before after
  pub named : IsSomeLeft (live_set old change) new.lost → AreNamed (with_added old change.added) change (with_added old change.added).lost new.lost new.newest
  pub newest : IsLater (planned_newest change.shared old.newest) new.newest
  pub turns : EachMark tells given.start before after (IsInTurns (with_added old change.added) change (with_added old change.added).lost (live_set old change) new.lost new.newest.events (disk given.start before))
  pub turned : tells → ArePastTurns (with_added old change.added) change (with_added old change.added).lost (live_set old change) (disk given.start before) (round_at new.newest new.lost given.start after)
  pub rise : RisesByOperations tells (live_set old change) new.lost old.newest.events new.newest.events before after
  pub own : AreStored new.newest change.gives (is_left (live_set old change) new.lost) (with_added old change.added).own new.own
  pub roles : new.roles ≡ planned_roles old change new.lost
  pub spares : new.spares ≡ planned_spares old change new.lost
  pub alive : AreLive given new
  pub losses : AreLosses (live_set old change) (with_added old change.added).lost new.lost faults faults'

-- Where no slot is added they are what the laws of an update start from.
abbrev pub UpdateIsChange : (tells : Type 0) → Type 0
UpdateIsChange tells = (given : Given) (change : Change) (old new : Members) (before after : List Operation) (faults faults' : ℕ → ℕ) → change.added ≡ None
    → HasUpdated tells given change old new before after faults faults' → IsChanged tells given change old new before after
