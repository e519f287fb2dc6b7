-- A call's clauses are what the laws of an update start from.
use Rattle.std.proofs.Common.{◌≡◌, ℕ, true, false, List, None, sym, ◌∙◌, ap, subst}
use Rattle.crash_views.specs.raid_types_Shapes.{has_slot}
use Rattle.crash_views.specs.bank_the_Operation.{Operation}
use Rattle.crash_views.specs.bank_Given.{Given}
use Rattle.crash_views.specs.bank_Tape.{EachMark, disk}
use Rattle.crash_views.specs.sb_specs_the_Change.{Change}
use Rattle.crash_views.specs.sb_specs_the_Members.{Members}
use Rattle.crash_views.specs.sb_specs_Updating.{IsUpdate, IsWrittenBy, AreNamed, IsSomeLeft}
use Rattle.crash_views.specs.sb_specs_Outcome.{with_added, live_set, is_left, AreStored}
use Rattle.crash_views.specs.sb_specs_Rounds.{round_at}
use Rattle.crash_views.specs.sb_specs_Losing.{IsInTurns, ArePastTurns}
use Rattle.crash_safety_laws.specs.Changing.{IsChanged}
use Rattle.crash_safety_laws.specs.Called.{HasUpdated, UpdateIsChange}

pub update-is-change : (tells : Type 0) → UpdateIsChange tells
update-is-change tells given change old new before after faults faults' none did = record {
  update = subst (λ (m : Members). IsUpdate tells (live_set old change) m.lost new.lost (IsWrittenBy m.newest change m.own) given.start before after) same did.update;
  named = subst (λ (m : Members). IsSomeLeft (live_set old change) new.lost → AreNamed m change m.lost new.lost new.newest) same did.named;
  newest = did.newest;
  turns = subst (λ (m : Members). EachMark tells given.start before after (IsInTurns m change m.lost (live_set old change) new.lost new.newest.events (disk given.start before))) same did.turns;
  turned = subst (λ (m : Members). tells → ArePastTurns m change m.lost (live_set old change) (disk given.start before) (round_at new.newest new.lost given.start after)) same did.turned;
  rise = did.rise;
  own = subst (λ (m : Members). AreStored new.newest change.gives (is_left (live_set old change) new.lost) m.own new.own) same did.own;
  roles = did.roles;
  spares = did.spares;
  alive = did.alive;
  stay = λ s is. did.losses.stay s (subst (λ (m : Members). has_slot m.lost s ≡ true) (sym same) is);
  live = λ s is isnt. did.losses.live s is (subst (λ (m : Members). has_slot m.lost s ≡ false) (sym same) isnt);
}
  where
    same : with_added old change.added ≡ old
    same = ap (with_added old) none

-- so it is by another name of the change
pub changed-by : (tells : Type 0) (given : Given) (called change : Change) (old new : Members) (before after : List Operation) (faults faults' : ℕ → ℕ) → called ≡ change → change.added ≡ None
    → HasUpdated tells given called old new before after faults faults' → IsChanged tells given change old new before after
changed-by tells given called change old new before after faults faults' is none did =
    subst (λ (ch : Change). IsChanged tells given ch old new before after) is (update-is-change tells given called old new before after faults faults' (ap (λ (ch : Change). ch.added) is ∙ none) did)
