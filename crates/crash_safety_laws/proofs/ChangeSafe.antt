-- Any update keeps an array safe: each image is seen as before it or as one of its rounds plans, and at its end the superblocks are held, or no
-- live slot is left.
use Rattle.std.proofs.Common.{◌≡◌, ◌⊎◌, inl, inr, ⊎_elim, ℕ, ◌^◌, ◌<◌, ◌≤◌, ◌&&◌, Bool, true, false, nat_lt, take, take_all, le_refl, List, length, None, refl, sym, ◌∙◌, subst, arith, Option}
use Rattle.std.specs.Prelude.{⊤}
use Rattle.std.proofs.lemmas.Bool.Decides.{nat_tests}
use Rattle.crash_views.specs.raid_types_Shapes.{has_slot}
use Rattle.sb_update_laws.specs.sb_codec_the_Sb.{Sb}
use Rattle.crash_views.specs.bank_the_Operation.{Operation}
use Rattle.crash_views.specs.bank_Given.{Given}
use Rattle.crash_views.specs.bank_Tape.{Contents, EachMark, disk}
use Rattle.crash_views.specs.sb_specs_the_Change.{Change}
use Rattle.crash_views.specs.sb_specs_the_Members.{Members}
use Rattle.crash_views.specs.sb_specs_Reading.{Scope}
use Rattle.crash_views.specs.sb_specs_Update.{is_live}
use Rattle.crash_views.specs.sb_specs_Updating.{IsSomeLeft, IsLater, AreNamed, planned_newest}
use Rattle.crash_views.specs.sb_specs_Outcome.{live_set, AreGivesOfLive}
use Rattle.crash_views.specs.sb_specs_Held.{AreDrawn}
use Rattle.crash_views.specs.sb_specs_Stages.{AreLeft, AreKept}
use Rattle.crash_views.specs.sb_read_laws_Following.{AreHeldAlone}
use Rattle.crash_views.specs.sb_specs_Rounds.{round_at, IsReady}
use Rattle.crash_views.specs.sb_specs_Crash.{IsWithin}
use Rattle.crash_views.specs.sb_read_laws_Said.{AreSaidAsPlanned}
use Rattle.crash_views.proofs.sb_specs_ReadLists.{by_bool}
use Rattle.crash_views.proofs.sb_read_laws_RoundReads.{left_set}
use Rattle.sb_update_laws.proofs.Laws.{turning-reads, turning-follows}
use Rattle.crash_views.specs.stripe_row_Rows.{members_without}
use Rattle.crash_views.specs.Views.{Disk, Ledger, IsViewRight, IsSeenRight}
use Rattle.crash_safety_laws.specs.Marking.{marking}
use Rattle.crash_safety_laws.specs.Held.{IsHeldBy}
use Rattle.crash_safety_laws.specs.Carried.{AreCarried}
use Rattle.crash_safety_laws.specs.Safety.{HasLiveSlot, HasMarkRoom, IsRisen}
use Rattle.crash_safety_laws.specs.Steady.{AreViewsRight, IsSteady, IsSafeNow, IsNamedNow, IsSafeStretch}
use Rattle.crash_safety_laws.specs.Changing.{IsChanged, IsPlannedSafe, AreEitherRight, IsSpentByEither, IsSafeChange, ChangeStaysSafe, SpentStaysSpent, SafeChangeStaysSafe}
use Rattle.crash_safety_laws.proofs.Steady.{safe-is-seen}
use Rattle.crash_safety_laws.proofs.Without.{live-of}
use Rattle.crash_safety_laws.proofs.UpdateViews.{planned-is-read}
use Rattle.crash_safety_laws.proofs.PlannedRoles.{live-before}
use Rattle.crash_safety_laws.proofs.Started.{Live, Left, live-known, ready, said-planned}
use Rattle.crash_safety_laws.proofs.ChangeViews.{new-kept}
use Rattle.crash_safety_laws.proofs.Stretch.{some-left, IsUnderWay, first-room, few, as-before, as-planned, own-there, rest-are, stretch}

-- ---- from where the superblocks are held

module _ (sound : Type 0) (scope : Scope) (given : Given) (told more : Ledger) (change : Change) (former : Members) (gone : ℕ) (new : Members) (before after : List Operation)
    (m : IsChanged ⊤ given change (members_without gone former) new before after) (room : HasMarkRoom (members_without gone former) before after)
    (safe : IsPlannedSafe sound scope given told more change (members_without gone former) new (disk given.start before))
    (held : IsHeldBy scope former (disk given.start before)) (right : IsViewRight sound scope given told former (disk given.start before))
    (numbers : AreCarried scope told.carried former.own (disk given.start before)) where
  abbrev Old : Members
  Old = members_without gone former

  abbrev Before : Disk
  Before = disk given.start before

  abbrev At : ℕ → Disk
  At n = disk given.start (take n after)

  abbrev Lives : ℕ
  Lives = Live scope former gone change Before held safe.fit safe.right.placed.fit

  abbrev Lefts : ℕ
  Lefts = Left scope former gone change Before held safe.fit safe.right.placed.fit

  unfoldable under-way : IsUnderWay sound scope given told more change former gone new before after
  under-way = record {
    did = m;
    room = room;
    held = held;
    right = right;
    numbers = numbers;
    none = safe.fit.none;
    gives = safe.fit.gives;
    known = live-known scope former gone change Before held safe.fit safe.right.placed.fit;
    one = safe.fit.one_holder;
    below = safe.fit.below;
    plan = safe.right;
    missing = safe.gone;
    carried = safe.carried;
  }

  start : new.newest.events < 2 ^ 62 → IsReady scope held.known Lefts Old change Lives Before
  start small = ready scope former gone change Before held safe.fit safe.right.placed.fit (first-room under-way small)

  said-at : (named left : ℕ) → IsWithin Old.lost named → AreLeft Lives named left → (newest : Sb) (own : List (Option Sb)) → new.newest.events < 2 ^ 62
      → ((s : ℕ) → has_slot named s ≡ true → has_slot Old.lost s ≡ false → has_slot Lives s ≡ true) → IsLater (planned_newest change.shared former.newest) newest → AreNamed Old change Old.lost named newest
      → length newest.dev_roles ≡ 384 → AreKept newest change.gives former.own left own → AreSaidAsPlanned scope held.known named left Old change newest own
  said-at named left wider are newest own small since later plan table kept =
      said-planned scope former gone change Before held safe.fit safe.right.placed.fit named left wider are newest own (first-room under-way small) (few under-way) since later plan table kept

  each : new.newest.events < 2 ^ 62 → (n : ℕ) → length before ≤ n → n ≤ length after → (c : Contents) → AreDrawn (At n) c → IsSeenRight sound scope given told (At n) c ⊎ IsSeenRight sound scope given more (At n) c
  unfolding under-way
  each small n low high c drawn = ⊎_elim
      (λ r. inl (as-before under-way n low high c r.lost r.reads))
      (λ r. inr (as-planned under-way n low high c r (planned-is-read scope held.known Old change Old.lost Lives new.lost c r
      (own-there under-way r.named r.left r.more r.are)
      (said-at r.named r.left r.more r.are r.newest r.own small (λ s is isnt. m.live s (r.within s is) isnt) r.later r.plan r.table r.kept))))
      (turning-reads scope held.known Lefts Old change Old.lost Lives new.lost new.newest.events Before (At n) (start small) (λ s is. is) small (m.turns.each tt n low high) c drawn)

  module _ (small : new.newest.events < 2 ^ 62) (some : IsSomeLeft Lives new.lost) where
    abbrev Rest : ℕ
    Rest = left_set 32 Lives new.lost

    alone : AreHeldAlone scope Rest new.lost new.newest new.own (disk given.start after)
    alone = turning-follows scope held.known Lefts Old change Old.lost Lives Before (round_at new.newest new.lost given.start after)
        (start small) (λ s is. is) (m.turned tt) small some (m.named some) new.own m.own Rest (rest-are under-way)

    said-as : AreSaidAsPlanned scope held.known new.lost Rest Old change new.newest new.own
    said-as = said-at new.lost Rest m.stay (rest-are under-way) new.newest new.own small m.live m.newest (m.named some) alone.held.table
        (new-kept Old new change safe.fit.gives m.newest m.own m.roles m.spares Rest (rest-are under-way))

  changed : IsSafeChange sound scope given told more new before after
  unfolding under-way
  changed = stretch under-way each (λ small some. (alone small some, said-as small some))

pub change-safe : (sound : Type 0) → ChangeStaysSafe sound
change-safe sound scope given told more change old new before after m room safe steady =
    subst (λ (o : Members). IsChanged ⊤ given change o new before after → HasMarkRoom o before after → IsPlannedSafe sound scope given told more change o new (disk given.start before)
    → IsSafeChange sound scope given told more new before after) (sym steady.since.since)
    (λ m room safe. changed sound scope given told more change steady.former steady.since.gone new before after m room safe steady.since.held steady.right steady.numbers) m room safe

-- ---- from where no live slot is left

module _ (sound : Type 0) (scope : Scope) (given : Given) (told more : Ledger) (change : Change) (old new : Members) (before after : List Operation)
    (m : IsChanged ⊤ given change old new before after) (none : change.added ≡ None) (gives : AreGivesOfLive old change) (spent : IsSpentByEither sound scope given told more old (disk given.start before)) where
  none-before : IsSomeLeft (live_set old change) old.lost → ⊥
  none-before some = spent.none (some.0, live-of old (marking old false) refl some.0 ∙ sym (live-of old change none some.0) ∙ some.1, some.2)

  nothing-at : (n : ℕ) → length before ≤ n → n ≤ length after → (s k : ℕ) → disk given.start (take n after) s k ≡ disk given.start before s k
  nothing-at n low high s k = by (has_slot (live_set old change) s) refl (has_slot old.lost s) refl
    where
      by : (a : Bool) → has_slot (live_set old change) s ≡ a → (b : Bool) → has_slot old.lost s ≡ b → disk given.start (take n after) s k ≡ disk given.start before s k
      by false dead b is = (m.update.marks.each tt n low high).touched.others s k dead
      by true live true lost = (m.update.marks.each tt n low high).touched.gone s k lost
      by true live false left = absurd (none-before (s, live, left))

  same-at : (n : ℕ) → length before ≤ n → n ≤ length after → AreEitherRight sound scope given told more (disk given.start (take n after))
  same-at n low high = subst (λ (d : Disk). AreEitherRight sound scope given told more d) (λ i s k. sym (nothing-at n low high s k) i) spent.right

  none-after : HasLiveSlot new → ⊥
  none-after some =
      let was = live-before old new change gives m.roles m.spares some.0 some.1 in
      none-before (some.0, was.0, ⊎_elim (λ is. absurd (let e = m.stay some.0 is in let both = sym e ∙ some.2 in cc)) (λ isnt. isnt) (by_bool (has_slot old.lost some.0)))

  stays-spent : IsSafeChange sound scope given told more new before after
  stays-spent = record {
    marks = record { longer = m.update.marks.longer; earlier = m.update.marks.earlier; each = λ one n low high. same-at n low high };
    next = inr (record {
      right = subst (λ (tape : List Operation). AreEitherRight sound scope given told more (disk given.start tape)) (take_all (length after) after (le_refl (length after)))
          (same-at (length after) (m.update.marks.longer tt) (le_refl (length after)));
      none = none-after;
    });
  }

pub spent-stays : (sound : Type 0) → SpentStaysSpent sound
spent-stays sound scope given told more change old new before after m none gives spent = stays-spent sound scope given told more change old new before after m none gives spent

-- ---- from any state

-- seen by the one ledger, it is by one of two
wider : (sound : Type 0) (scope : Scope) (given : Given) (told more : Ledger) (d : Disk) → AreViewsRight sound scope given told d → AreEitherRight sound scope given told more d
wider sound scope given told more d seen c drawn = inl (seen c drawn)

-- where a live slot is left it goes on from what is held, and where none is nothing is written
pub from-any : (sound : Type 0) (scope : Scope) (given : Given) (told more : Ledger) (change : Change) (old new : Members) (before after : List Operation)
    → IsChanged ⊤ given change old new before after → change.added ≡ None → AreGivesOfLive old change
    → (HasLiveSlot old → IsSteady sound scope given told old (disk given.start before) → IsSafeChange sound scope given told more new before after)
    → IsSafeNow sound scope given told old (disk given.start before) → IsSafeChange sound scope given told more new before after
from-any sound scope given told more change old new before after m none gives go safe = ⊎_elim
    (λ steady. ⊎_elim (λ some. go some steady) (λ empty. spent empty) (some-left (live_set old (marking old false)) old.lost (small old)))
    (λ was. spent was.none)
    safe
  where
    small : (o : Members) (s : ℕ) → has_slot (live_set o (marking o false)) s ≡ true → s < 32
    small o s is = of (nat_lt s 32) refl (sym (live-of o (marking o false) refl s) ∙ is)
      where
        of : (b : Bool) → nat_lt s 32 ≡ b → (b && is_live o.roles o.spares s) ≡ true → s < 32
        of true lt e = grind (arith, nat_tests, lt)
        of false lt e = absurd (cc)

    spent : (HasLiveSlot old → ⊥) → IsSafeChange sound scope given told more new before after
    spent empty = spent-stays sound scope given told more change old new before after m none gives (record {
      right = wider sound scope given told more (disk given.start before) (safe-is-seen sound scope given told old before safe);
      none = empty;
    })

pub safe-change : (sound : Type 0) → SafeChangeStaysSafe sound
safe-change sound scope given told more change old new before after m none gives room owed now = from-any sound scope given told more change old new before after m none gives
    (λ some steady. change-safe sound scope given told more change old new before after m (room some) (owed steady) steady) now

-- ---- over a bank that tells its contents

pub told-marks : {tells : Type 0} {start : Contents} {old new : List Operation} {P : Disk → Type 0} → tells → EachMark tells start old new P → EachMark ⊤ start old new P
told-marks so marks = record { longer = λ one. marks.longer so; earlier = λ one. marks.earlier so; each = λ one n low high. marks.each so n low high }

pub told-changed : {tells : Type 0} {given : Given} {change : Change} {old new : Members} {before after : List Operation} → tells → IsChanged tells given change old new before after
    → IsChanged ⊤ given change old new before after
told-changed so m = record {
  update = record { marks = told-marks so m.update.marks; end = λ one. m.update.end so };
  named = m.named;
  newest = m.newest;
  turns = told-marks so m.turns;
  turned = λ one. m.turned so;
  rise = λ one. m.rise so;
  own = m.own;
  roles = m.roles;
  spares = m.spares;
  alive = m.alive;
  stay = m.stay;
  live = m.live;
}

-- ---- the event count

pub risen-changed : {tells : Type 0} {given : Given} {change : Change} {old new : Members} {before after : List Operation} → IsChanged tells given change old new before after
    → change.added ≡ None → AreGivesOfLive old change → IsRisen tells old new before after
risen-changed {change = change} {old = old} {new = new} m none gives = record {
  left = λ live.
      let was = live-before old new change gives m.roles m.spares live.0 live.1 in (
        live.0,
        live-of old (marking old false) refl live.0 ∙ sym (live-of old change none live.0) ∙ was.0,
        ⊎_elim (λ is. absurd (let e = m.stay live.0 is in let both = sym e ∙ live.2 in cc)) (λ isnt. isnt) (by_bool (has_slot old.lost live.0)),
      );
  events = λ told live. m.rise told (inl (live.0, (live-before old new change gives m.roles m.spares live.0 live.1).0, live.2));
}

-- ---- by one ledger

one-of : (sound : Type 0) (scope : Scope) (given : Given) (told : Ledger) (d : Disk) → AreEitherRight sound scope given told told d → AreViewsRight sound scope given told d
one-of sound scope given told d seen c drawn = ⊎_elim (λ is. is) (λ is. is) (seen c drawn)

-- where nothing more is told it is a stretch of a call
pub one-stretch : (sound : Type 0) (scope : Scope) (given : Given) (told : Ledger) (new : Members) (before after : List Operation) → IsSafeChange sound scope given told told new before after
    → IsSafeStretch sound scope given told new before after
one-stretch sound scope given told new before after safe = record {
  marks = record { longer = safe.marks.longer; earlier = safe.marks.earlier; each = λ one n low high. one-of sound scope given told (disk given.start (take n after)) (safe.marks.each tt n low high) };
  next = ⊎_elim (λ named. inl named.steady) (λ spent. inr (record { right = one-of sound scope given told (disk given.start after) spent.right; none = spent.none })) safe.next;
}

-- where a live slot is left at the end, each lost slot that held a role is named
pub change-named : (sound : Type 0) (scope : Scope) (given : Given) (told more : Ledger) (new : Members) (before after : List Operation)
    → IsSafeChange sound scope given told more new before after → HasLiveSlot new → IsNamedNow sound scope given more new (disk given.start after)
change-named sound scope given told more new before after safe left = ⊎_elim (λ named. named) (λ spent. absurd (spent.none left)) safe.next
