-- The update that makes a recovering slot whole keeps an array safe: each image is seen as before it, as planned, or as planned with the slot still
-- recovering.
use Rattle.std.proofs.Common.{◌≡◌, ◌⊎◌, inl, inr, ⊎_elim, ℕ, ◌+◌, ◌^◌, ◌<◌, ◌≤◌, ◌||◌, ◌&&◌, Bool, true, false, not, nat_lt, map, bit_or, take, drop, List, ◌++◌, length, Option, refl, sym, ◌∙◌, ap, subst, arith}
use Rattle.std.specs.Prelude.{⊤}
use Rattle.std.specs.List.{list_any}
use Rattle.std.proofs.lemmas.Bool.{cases_eq}
use Rattle.crash_safety_laws.specs.raid_types_Shapes.{has_slot}
use Rattle.crash_safety_laws.specs.sb_codec_the_Sb.{Sb}
use Rattle.crash_safety_laws.specs.bank_the_Operation.{Operation}
use Rattle.crash_safety_laws.specs.bank_Given.{Given}
use Rattle.crash_safety_laws.specs.bank_Tape.{Contents, disk}
use Rattle.crash_safety_laws.specs.sb_specs_the_Give.{Give}
use Rattle.crash_safety_laws.specs.sb_specs_the_Give_TheVariants.{Same}
use Rattle.crash_safety_laws.specs.sb_specs_the_Give_TheVariants as give
use Rattle.crash_safety_laws.specs.sb_specs_the_Change.{Change}
use Rattle.crash_safety_laws.specs.sb_specs_the_Members.{Members}
use Rattle.crash_safety_laws.specs.sb_specs_Reading.{Scope, role_count}
use Rattle.crash_safety_laws.specs.sb_specs_Reads.{has_spare}
use Rattle.crash_safety_laws.specs.sb_specs_Update.{give_of, is_live, is_held_by, is_recovery, planned_role, is_planned_spare, slot_entry, entry_for, with_entries, with_roles, faulty_role}
use Rattle.crash_safety_laws.specs.sb_specs_Updating.{IsSomeLeft, IsLater, AreNamed, planned_newest}
use Rattle.crash_safety_laws.specs.sb_specs_Outcome.{live_set, planned_state, AreGivesOfLive}
use Rattle.crash_safety_laws.specs.sb_specs_Held.{AreDrawn}
use Rattle.crash_safety_laws.specs.sb_specs_Stages.{AreLeft, AreKept, AreFirstKept}
use Rattle.crash_safety_laws.specs.sb_read_laws_Following.{AreHeldAlone}
use Rattle.crash_safety_laws.specs.sb_specs_Rounds.{round_at, IsReady, IsReadAsPlanned}
use Rattle.crash_safety_laws.specs.sb_specs_Crash.{IsWithin}
use Rattle.crash_safety_laws.specs.sb_read_laws_Said.{AreSaidAsPlanned}
use Rattle.crash_safety_laws.proofs.sb_specs_ReadAlike.{tabulate-same}
use Rattle.crash_safety_laws.proofs.sb_specs_ReadLists.{by_bool}
use Rattle.crash_safety_laws.proofs.sb_read_laws_RoundReads.{left_set}
use Rattle.crash_safety_laws.proofs.sb_read_laws_RoundsRead.{more-held}
use Rattle.crash_safety_laws.proofs.sb_read_laws_SaidLists.{role-holder}
use Rattle.crash_safety_laws.proofs.sb_read_laws_SaidSlots.{role-known, spare-known}
use Rattle.crash_safety_laws.specs.sb_update_laws_MakingWhole.{without_gives, IsMakingWhole}
use Rattle.crash_safety_laws.proofs.sb_update_laws_Laws.{making-reads, making-follows}
use Rattle.crash_safety_laws.proofs.sb_update_laws_MadeWholeSaid.{made-said}
use Rattle.crash_safety_laws.specs.stripe_row_Rows.{members_without}
use Rattle.crash_safety_laws.specs.crash_views_Regions.{AreShapesFit}
use Rattle.crash_safety_laws.specs.crash_views_Views.{Disk, Ledger, IsViewRight, IsSeenRight}
use Rattle.crash_safety_laws.specs.Held.{IsHeldBy}
use Rattle.crash_safety_laws.specs.Carried.{AreCarried}
use Rattle.crash_safety_laws.specs.Safety.{HasMarkRoom}
use Rattle.crash_safety_laws.specs.Steady.{IsSteady}
use Rattle.crash_safety_laws.specs.Updates.{planned_view, HasOneHolder}
use Rattle.crash_safety_laws.specs.Changing.{IsChanged, IsFitUpdate, IsSafeChange}
use Rattle.crash_role_laws.specs.Making.{IsMade, IsMakable, MakingStaysSafe}
use Rattle.crash_safety_laws.proofs.Without.{live-of, any-without, any-holds, any-held}
use Rattle.crash_safety_laws.proofs.Kept.{give_of-same}
use Rattle.crash_safety_laws.proofs.UpdateViews.{planned-is-read}
use Rattle.crash_safety_laws.proofs.PlannedRoles.{role-same, state-same}
use Rattle.crash_safety_laws.proofs.FitKinds.{taking-is-fit}
use Rattle.crash_safety_laws.proofs.Started.{Live, Lost, Left, gone-lost, first-lost, left-known, left-is, fits-of, same-first, fields-at, live-first, ready, said-planned, live-known}
use Rattle.crash_safety_laws.proofs.ChangeViews.{new-kept}
use Rattle.crash_safety_laws.proofs.ChangeSafe.{from-any}
use Rattle.crash_safety_laws.proofs.Stretch.{plan-right, IsUnderWay, first-room, few, view-at, as-before, as-planned, own-there, rest-are, stretch}

both-of : (a b : Bool) → (a && b) ≡ true → (a ≡ true) × (b ≡ true)
both-of true b e = (refl, e)
both-of false b e = absurd (cc)

or-rest : (a b : Bool) → (a || b) ≡ true → a ≡ false → b ≡ true
or-rest true b e none = absurd (cc)
or-rest false b e none = e

module _ (sound : Type 0) (scope : Scope) (given : Given) (told more : Ledger) (change : Change) (slot role : ℕ) (former : Members) (gone : ℕ) (new : Members) (before after : List Operation)
    (made : IsMade ⊤ given change (members_without gone former) new before after) (room : HasMarkRoom (members_without gone former) before after)
    (gives : AreGivesOfLive (members_without gone former) change)
    (safe : IsMakable sound scope given told more change slot role (members_without gone former) new (disk given.start before))
    (held : IsHeldBy scope former (disk given.start before)) (right : IsViewRight sound scope given told former (disk given.start before))
    (numbers : AreCarried scope told.carried former.own (disk given.start before)) where
  abbrev Old : Members
  Old = members_without gone former

  abbrev Before : Disk
  Before = disk given.start before

  abbrev At : ℕ → Disk
  At n = disk given.start (take n after)

  -- the change that leaves the slot what it is
  abbrev Still : Change
  Still = without_gives change

  m : IsChanged ⊤ given change Old new before after
  m = made.changed

  fit : IsFitUpdate (members_without gone former) (without_gives change)
  fit = taking-is-fit scope former Old Still Before (record { gone = gone; since = refl; held = held }) (record {
    none = safe.making.none;
    size = safe.size;
    count = (let same = safe.count in omega (arith, same));
    each = λ s. inl (give_of-same 32 s);
    apart = λ s t r a b is is'. absurd (let clash : ◌≡◌ {A = Give} Same (give.Role r a) = sym (give_of-same 32 s) ∙ is in cc);
    one = λ s t is is'. absurd (let none = ap is_recovery (give_of-same 32 s) in let clash = sym none ∙ is in cc);
  })

  abbrev shapes : AreShapesFit (planned_newest change.shared former.newest)
  shapes = safe.still.placed.fit

  abbrev Lives : ℕ
  Lives = Live scope former gone Still Before held fit shapes

  abbrev Losts : ℕ
  Losts = Lost scope former gone Still Before held fit shapes

  abbrev Lefts : ℕ
  Lefts = Left scope former gone Still Before held fit shapes

  -- each slot gets the role that it has
  role-stays : (s : ℕ) → planned_role Old.roles (give_of change.gives s) s ≡ planned_role Old.roles (give_of Still.gives s) s
  role-stays s = elim (cases_eq s slot) [
    | inl same ↦ subst (λ (t : ℕ). planned_role Old.roles (give_of change.gives t) t ≡ planned_role Old.roles (give_of Still.gives t) t) (sym same)
        (ap (λ (g : Give). planned_role Old.roles g slot) safe.making.gives ∙ sym safe.making.holds ∙ sym (ap (λ (g : Give). planned_role Old.roles g slot) (give_of-same 32 slot)))
    | inr apart ↦ ap (λ (g : Give). planned_role Old.roles g s) (safe.making.others s apart ∙ sym (give_of-same 32 s))
  ]

  one-holder : HasOneHolder (members_without gone former) change (bit_or former.lost gone)
  one-holder s t r none none' is is' = fit.one_holder s t r none none' (sym (role-stays s) ∙ is) (sym (role-stays t) ∙ is')

  no-recovery : (s : ℕ) → is_recovery (give_of change.gives s) ≡ false
  no-recovery s = elim (cases_eq s slot) [
    | inl same ↦ ap is_recovery (ap (give_of change.gives) same ∙ safe.making.gives)
    | inr apart ↦ ap is_recovery (safe.making.others s apart)
  ]

  first-kept : AreFirstKept change.gives Old.lost new.lost
  first-kept s is lost = absurd (let none = no-recovery s in let clash = sym none ∙ is in cc)

  unfoldable under-way : IsUnderWay sound scope given told more change former gone new before after
  under-way = record {
    did = m;
    room = room;
    held = held;
    right = right;
    numbers = numbers;
    none = safe.making.none;
    gives = gives;
    known = live-known scope former gone Still Before held fit shapes;
    one = one-holder;
    below = λ s r kept has. fit.below s r kept (sym (role-stays s) ∙ has);
    plan = safe.right;
    missing = safe.gone;
    carried = safe.carried;
  }

  -- ---- what the superblocks say then

  -- the former members, where the lost slots are lost
  abbrev AtFirst : Members
  AtFirst = record former { lost = Losts }

  abbrev self-left : AreLeft Lives Losts Lefts
  self-left = left-is scope former gone Still Before held fit shapes

  slot-kept : has_slot gone slot ≡ false
  slot-kept =
      let holds = any-held slot Old.roles role (role-holder slot Old.roles role safe.making.holds) in
      (left-of (has_slot gone slot) (list_any (is_held_by slot) former.roles) (sym (any-without gone slot former.roles) ∙ holds))
    where
      left-of : (a b : Bool) → (not a && b) ≡ true → a ≡ false
      left-of true b e = absurd (cc)
      left-of false b e = refl

  making-first : IsMakingWhole (record former { lost = bit_or former.lost gone }) change slot role
  making-first = record {
    sb = safe.making.sb;
    is = safe.making.is;
    recovers = safe.making.recovers;
    holds = role-same former gone Same slot slot-kept ∙ safe.making.holds;
    gives = safe.making.gives;
    others = safe.making.others;
    none = safe.making.none;
  }

  first-known : (s : ℕ) → has_slot (live_set AtFirst change) s ≡ true → has_slot held.known s ≡ true
  first-known s is =
      let parts = both-of (nat_lt s 32) (is_live former.roles former.spares s) (sym (live-of AtFirst change safe.making.none s) ∙ is) in
      ⊎_elim
      (λ holds. let r = any-holds s former.roles holds in (role-known scope held.known former held.said r.0 s r.1).0)
      (λ none. spare-known scope held.known former held.said s (or-rest (list_any (is_held_by s) former.roles) (has_spare former.spares s) parts.1 none))
      (by_bool (list_any (is_held_by s) former.roles))

  first-live : (s : ℕ) → has_slot Lives s ≡ true → has_slot (live_set AtFirst change) s ≡ true
  first-live s is = live-of AtFirst change safe.making.none s
      ∙ wider (nat_lt s 32) (not (has_slot gone s)) (list_any (is_held_by s) former.roles) (has_spare former.spares s)
      (ap (λ (b : Bool). nat_lt s 32 && (b || has_spare former.spares s)) (sym (any-without gone s former.roles)) ∙ sym (live-of Old change safe.making.none s) ∙ is)
    where
      wider : (below kept role spare : Bool) → (below && ((kept && role) || spare)) ≡ true → (below && (role || spare)) ≡ true
      wider false kept role spare e = absurd (cc)
      wider true true role spare e = e
      wider true false true spare e = refl
      wider true false false spare e = e

  start-first : former.newest.events + 1 < 2 ^ 62 → IsReady scope held.known Lefts (record former { lost = bit_or former.lost gone }) (without_gives change) (live_set (record former { lost = bit_or former.lost gone }) change) Before
  start-first soon = record {
    held = more-held scope held.known former.lost Losts former.newest former.own Before (first-lost scope former gone Still Before held fit shapes) held.updated.held;
    are = live-first scope former gone Still Before held fit shapes Losts Lefts (λ t lost. lost) self-left;
    within = first-known;
    exact = λ s sb found is own mine. held.updated.exact s sb found (left-known scope former gone Still Before held fit shapes Losts Lefts (λ t lost. lost) self-left s is) own mine;
    fits = fits-of scope former gone Still Before held fit shapes Losts Lefts (λ t lost. lost) self-left former.roles Losts (same-first scope former gone Still Before held fit shapes Losts Lefts (λ t lost. lost) self-left) soon;
    fields = fields-at scope former gone Still Before held fit shapes;
  }

  module _ (lost left : ℕ) (wider : IsWithin Losts lost) (are : AreLeft Lives lost left) where
    entry-same : (s : ℕ) → entry_for Old change Losts lost s ≡ entry_for AtFirst change Losts lost s
    entry-same s = ⊎_elim
        (λ is. (λ i. slot_entry (is i) (wider s is i) (planned_role Old.roles (give_of change.gives s) s) (is_planned_spare former.spares change.added (give_of change.gives s) s))
        ∙ sym (λ i. slot_entry (is i) (wider s is i) (planned_role former.roles (give_of change.gives s) s) (is_planned_spare former.spares change.added (give_of change.gives s) s)))
        (λ none. ap (λ (r : Option ℕ). slot_entry (has_slot Losts s) (has_slot lost s) r (is_planned_spare former.spares change.added (give_of change.gives s) s))
        (sym (role-same former gone (give_of change.gives s) s (⊎_elim (λ is. absurd (let e = gone-lost scope former gone Still Before held fit shapes s is in let clash = sym e ∙ none in cc)) (λ isnt. isnt) (by_bool (has_slot gone s))))))
        (by_bool (has_slot Losts s))

    tables-same : (t : List ℕ) → with_roles Old change Losts lost t ≡ with_roles AtFirst change Losts lost t
    tables-same t = ap (λ (entries : ℕ → Option ℕ). with_entries entries former.own 32 (map faulty_role (take 128 t) ++ drop 128 t)) (λ i s. entry-same s i)

    made-planned : (newest : Sb) (own : List (Option Sb)) → former.newest.events + 1 < 2 ^ 62 → ((s : ℕ) → has_slot lost s ≡ true → has_slot Losts s ≡ false → has_slot Lives s ≡ true)
        → IsLater (planned_newest change.shared former.newest) newest → AreNamed Old change Losts lost newest → length newest.dev_roles ≡ 384 → AreKept newest change.gives former.own left own
        → AreSaidAsPlanned scope held.known lost left (members_without gone former) change newest own
    made-planned newest own soon since later named table kept =
        let said = made-said scope held.known Lefts Losts AtFirst change slot role Before newest making-first (start-first soon)
        (record { roles = held.said.roles; spares = held.said.spares })
        (record {
          named = lost;
          known = left;
          own = own;
          are = live-first scope former gone Still Before held fit shapes lost left wider are;
          more = wider;
          later = later;
          plan = (named.0, named.1 ∙ tables-same named.0);
          table = table;
          few = (let same = ap role_count later.same in let f = few under-way in omega (arith, same, f));
          kept = kept;
        })
        (λ s isnt is. first-live s (since s is isnt)) in
        record {
          roles = said.roles ∙ tabulate-same (role_count change.shared) (planned_state former.roles change.gives lost) (planned_state Old.roles change.gives lost)
              (λ r lt. state-same former gone change.gives lost (λ s is. wider s (gone-lost scope former gone Still Before held fit shapes s is)) r);
          spares = said.spares;
          starts = said.starts;
        }

  -- ---- at each mark

  start : new.newest.events < 2 ^ 62 → IsReady scope held.known Lefts Old Still Lives Before
  start small = ready scope former gone Still Before held fit shapes (first-room under-way small)

  -- as planned with the slot still recovering
  as-still : new.newest.events < 2 ^ 62 → (n : ℕ) → length before ≤ n → n ≤ length after → (c : Contents) → IsReadAsPlanned scope Old (without_gives change) Old.lost Lives new.lost c → IsSeenRight sound scope given told (At n) c
  unfolding under-way
  as-still small n low high c r = record {
    found = r.reads.found;
    is = r.reads.is;
    view = planned_view Old Still r.named;
    same = planned-is-read scope held.known Old Still Old.lost Lives new.lost c r (own-there under-way r.named r.left r.more r.are)
        (said-planned scope former gone Still Before held fit shapes r.named r.left r.more r.are r.newest r.own (first-room under-way small) (few under-way) (λ s is isnt. m.live s (r.within s is) isnt) r.later r.plan r.table r.kept);
    right = view-at under-way told (planned_view Old Still r.named) n low high
        (plan-right sound scope given told Old Still fit.one_holder Before r.named new.lost r.more r.within safe.gone_still safe.still);
  }

  each : new.newest.events < 2 ^ 62 → (n : ℕ) → length before ≤ n → n ≤ length after → (c : Contents) → AreDrawn (At n) c → IsSeenRight sound scope given told (At n) c ⊎ IsSeenRight sound scope given more (At n) c
  unfolding under-way
  each small n low high c drawn = elim (making-reads scope held.known Lefts Old change Old.lost Lives slot role new.lost new.newest.events Before (At n) safe.making (start small) small ((made.rounds first-kept).each tt n low high) c drawn) [
    | inl r ↦ inl (as-before under-way n low high c r.lost r.reads)
    | inr (inl r) ↦ inr (as-planned under-way n low high c r (planned-is-read scope held.known Old change Old.lost Lives new.lost c r (own-there under-way r.named r.left r.more r.are)
        (made-planned r.named r.left r.more r.are r.newest r.own (first-room under-way small) (λ s is isnt. m.live s (r.within s is) isnt) r.later r.plan r.table r.kept)))
    | inr (inr r) ↦ inl (as-still small n low high c r)
  ]

  -- ---- at its end

  module _ (small : new.newest.events < 2 ^ 62) (some : IsSomeLeft Lives new.lost) where
    abbrev Rest : ℕ
    Rest = left_set 32 Lives new.lost

    alone : AreHeldAlone scope Rest new.lost new.newest new.own (disk given.start after)
    alone = making-follows scope held.known Lefts Old change Old.lost Lives slot role Before (round_at new.newest new.lost given.start after) safe.making
        (start small) (made.past first-kept tt) small some (m.named some) new.own m.own Rest (rest-are under-way)

    said-as : AreSaidAsPlanned scope held.known new.lost Rest (members_without gone former) change new.newest new.own
    said-as = made-planned new.lost Rest m.stay (rest-are under-way) new.newest new.own (first-room under-way small) m.live m.newest (m.named some) alone.held.table
        (new-kept Old new change gives m.newest m.own m.roles m.spares Rest (rest-are under-way))

  made-stretch : IsSafeChange sound scope given told more new before after
  unfolding under-way
  made-stretch = stretch under-way each (λ small some. (alone small some, said-as small some))

made-steady : (sound : Type 0) (scope : Scope) (given : Given) (told more : Ledger) (change : Change) (slot role : ℕ) (old new : Members) (before after : List Operation)
    → IsMade ⊤ given change old new before after → HasMarkRoom old before after → AreGivesOfLive old change → IsMakable sound scope given told more change slot role old new (disk given.start before)
    → IsSteady sound scope given told old (disk given.start before) → IsSafeChange sound scope given told more new before after
made-steady sound scope given told more change slot role old new before after made room gives safe steady =
    subst (λ (o : Members). IsMade ⊤ given change o new before after → HasMarkRoom o before after → AreGivesOfLive o change → IsMakable sound scope given told more change slot role o new (disk given.start before)
    → IsSafeChange sound scope given told more new before after) (sym steady.since.since)
    (λ made room gives safe. made-stretch sound scope given told more change slot role steady.former steady.since.gone new before after made room gives safe steady.since.held steady.right steady.numbers) made room gives safe

pub making-safe : (sound : Type 0) → MakingStaysSafe sound
making-safe sound scope given told more change slot role old new before after made none gives room owed now =
    from-any sound scope given told more change old new before after made.changed none gives
    (λ some steady. made-steady sound scope given told more change slot role old new before after made (room some) gives (owed steady) steady) now
