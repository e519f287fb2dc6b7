-- The way of an update that keeps an array safe: each image is seen as before it or as planned, by whatever is read in its rounds; and at its end the
-- superblocks are held, or no live slot is left.
use Rattle.std.proofs.Common.{◌≡◌, ◌⊎◌, inl, inr, ⊎_elim, ℕ, ◌+◌, ◌^◌, ◌<◌, ◌≤◌, ◌==◌, ◌&&◌, Bool, true, false, not, nat_lt, take, take_all, le_refl, List, length, Option, Some, None, refl, sym, ◌∙◌, ap, subst, arith}
use Rattle.std.specs.Prelude.{⊤}
use Rattle.std.proofs.lemmas.Bool.{cases_lt, cases_eq}
use Rattle.std.proofs.lemmas.Bool.Decides.{nat_tests}
use Rattle.crash_views.specs.raid_types_Sectors.{Sector}
use Rattle.crash_views.specs.raid_types_Shapes.{has_slot}
use Rattle.crash_views.specs.raid_types_the_Role.{Role}
use Rattle.sb_update_laws.specs.sb_codec_the_Sb.{Sb}
use Rattle.crash_views.specs.bank_the_Operation.{Operation}
use Rattle.crash_views.specs.bank_Given.{Given}
use Rattle.crash_views.specs.bank_Tape.{Contents, IsIn, disk}
use Rattle.crash_views.proofs.bank_Laws.{kept_in}
use Rattle.crash_views.specs.sb_specs_the_Change.{Change}
use Rattle.crash_views.specs.sb_specs_the_Members.{Members}
use Rattle.crash_views.specs.sb_specs_Reading.{Scope, is_seen, is_backup, role_count}
use Rattle.crash_views.specs.sb_specs_Reads.{IsReadAs}
use Rattle.crash_views.specs.sb_specs_Update.{give_of, own_in, is_live, planned_role}
use Rattle.crash_views.specs.sb_specs_Updating.{IsSomeLeft, planned_newest}
use Rattle.crash_views.specs.sb_specs_Outcome.{live_set, is_left, AreGivesOfLive}
use Rattle.crash_views.specs.sb_specs_Held.{AreDrawn, said_by}
use Rattle.crash_views.specs.sb_specs_Stages.{AreLeft}
use Rattle.crash_views.specs.sb_read_laws_Following.{AreHeldAlone}
use Rattle.crash_views.specs.sb_specs_Rounds.{IsReadAsPlanned}
use Rattle.crash_views.specs.sb_specs_Crash.{IsWithin}
use Rattle.crash_views.specs.sb_read_laws_Said.{AreSaidAsPlanned}
use Rattle.crash_views.proofs.sb_specs_ReadLists.{by_bool}
use Rattle.crash_views.proofs.sb_read_laws_RoundReads.{left_set, left-are}
use Rattle.crash_views.proofs.sb_read_laws_StageReads.{held-reads}
use Rattle.crash_views.proofs.sb_specs_UpdateReads.{some-or-all}
use Rattle.crash_views.proofs.sb_specs_ValidFields.{few-roles}
use Rattle.crash_views.specs.stripe_row_Rows.{reading_of, is_missing, members_without}
use Rattle.crash_views.specs.history_Stands.{backup_absent}
use Rattle.crash_views.specs.Regions.{IsReadOf}
use Rattle.crash_views.specs.Views.{Disk, Ledger, IsViewRight, IsSeenRight}
use Rattle.crash_views.specs.Windows.{IsSomewhere, IsUpdating}
use Rattle.crash_views.proofs.WindowLaws.{updating-right}
use Rattle.crash_safety_laws.specs.Updates.{planned_view, HasOneHolder}
use Rattle.crash_safety_laws.specs.Marking.{marking}
use Rattle.crash_safety_laws.specs.Held.{IsHeldBy}
use Rattle.crash_safety_laws.specs.Carried.{AreCarried}
use Rattle.crash_safety_laws.specs.Safety.{HasMarkRoom}
use Rattle.crash_safety_laws.specs.Steady.{IsNamedNow, AreGoneTold}
use Rattle.crash_safety_laws.specs.Changing.{IsChanged, AreEitherRight, IsSafeChange}
use Rattle.crash_safety_laws.proofs.Carried.{carried-more, numbers-updated}
use Rattle.crash_safety_laws.proofs.ChangeViews.{later-fits, known-read, placed-less, plan-less, plan-placed, plan-told, new-less}
use Rattle.crash_safety_laws.proofs.Drawn.{disk-somewhere, filled, filled-drawn, seen-filled}
use Rattle.crash_safety_laws.proofs.LessViews.{less-right}
use Rattle.crash_safety_laws.proofs.PlannedRoles.{live-before, live-same}
use Rattle.crash_safety_laws.proofs.Since.{since-none}
use Rattle.crash_safety_laws.proofs.Without.{live-of}

-- ---- whatever is drawn on the slots that are looked at

-- it is enough that what is drawn on all slots is seen right
pub either-right : (sound : Type 0) (scope : Scope) (given : Given) (told more : Ledger) (d : Disk) → IsSomewhere d
    → ((c : Contents) → AreDrawn d c → IsSeenRight sound scope given told d c ⊎ IsSeenRight sound scope given more d c) → AreEitherRight sound scope given told more d
either-right sound scope given told more d some each c drawn = ⊎_elim
    (λ seen. inl (seen-filled scope d some c drawn sound given told d seen))
    (λ seen. inr (seen-filled scope d some c drawn sound given more d seen))
    (each (filled scope d some c drawn) (filled-drawn scope d some c drawn))

-- a slot that is looked at isn't the backup's
pub seen-own : (scope : Scope) (slot : ℕ) → is_seen scope slot ≡ true → scope.backup ≡ Some slot → ⊥
seen-own scope slot seen is = of (has_slot scope.given slot) (is_backup scope.backup slot) seen (ap (λ (o : Option ℕ). is_backup o slot) is ∙ self slot)
  where
    self : (n : ℕ) → (n == n) ≡ true
    self n = grind (arith, nat_tests)

    of : (a b : Bool) → (a && not b) ≡ true → b ≡ true → ⊥
    of true true e here = absurd (cc)
    of true false e here = absurd (cc)
    of false b e here = absurd (cc)

-- ---- a live slot is left, or none

pub some-left : (live lost : ℕ) → ((s : ℕ) → has_slot live s ≡ true → s < 32) → IsSomeLeft live lost ⊎ (IsSomeLeft live lost → ⊥)
some-left live lost small = ⊎_elim (λ found. inl (found.0, found.2.0, found.2.1)) (λ all. inr (λ some. all some.0 (small some.0 some.1) some.1 some.2))
    (some-or-all 32 (λ s. has_slot live s ≡ true → has_slot lost s ≡ false → ⊥) (λ s. (has_slot live s ≡ true) × (has_slot lost s ≡ false)) (λ s h. ⊎_elim
    (λ is. ⊎_elim (λ gone. inl (λ is' none. absurd (let both = sym gone ∙ none in cc))) (λ none. inr (is, none)) (by_bool (has_slot lost s)))
    (λ not_live. inl (λ is' none. absurd (let both = sym is' ∙ not_live in cc))) (by_bool (has_slot live s))))

-- ---- a plan with more slots named

pub plan-right : (sound : Type 0) (scope : Scope) (given : Given) (told : Ledger) (old : Members) (change : Change) → HasOneHolder old change old.lost
    → (d : Disk) (named last : ℕ) → IsWithin old.lost named → IsWithin named last → AreGoneTold told (planned_view old change last)
    → IsViewRight sound scope given told (planned_view old change old.lost) d → IsViewRight sound scope given told (planned_view old change named) d
plan-right sound scope given told old change one d named last more within gone right =
    less-right sound scope given told (planned_view old change old.lost) (planned_view old change named) d (plan-less scope given old change right.placed one named more)
    (plan-placed scope given old change right.placed one named more) (plan-told scope given old change right.placed one told named last more within gone) right

-- ---- from where the superblocks are held

-- An update of members of which some slots were lost since the superblocks were held, and that both views are right. That no role has two holders by the plan, nor
-- is past the last one, is asked besides, and that the live slots are known.
pub record IsUnderWay (sound : Type 0) (scope : Scope) (given : Given) (told more : Ledger) (change : Change) (former : Members) (gone : ℕ) (new : Members) (before after : List Operation) : Type 0 where
  pub did : IsChanged ⊤ given change (members_without gone former) new before after
  pub room : HasMarkRoom (members_without gone former) before after
  pub held : IsHeldBy scope former (disk given.start before)
  pub right : IsViewRight sound scope given told former (disk given.start before)
  pub numbers : AreCarried scope told.carried former.own (disk given.start before)
  pub none : change.added ≡ None
  pub gives : AreGivesOfLive (members_without gone former) change
  pub known : (s : ℕ) → has_slot (live_set (members_without gone former) change) s ≡ true → has_slot held.known s ≡ true
  pub one : HasOneHolder (members_without gone former) change (members_without gone former).lost
  pub below : (s role : ℕ) → has_slot (members_without gone former).lost s ≡ false → planned_role (members_without gone former).roles (give_of change.gives s) s ≡ Some role
      → role < role_count (planned_newest change.shared former.newest)
  pub plan : IsViewRight sound scope given more (planned_view (members_without gone former) change (members_without gone former).lost) (disk given.start before)
  pub missing : AreGoneTold more (planned_view (members_without gone former) change new.lost)
  pub carried : (slot number : ℕ) → told.carried slot number ≡ true → more.carried slot number ≡ true

module _ {sound : Type 0} {scope : Scope} {given : Given} {told more : Ledger} {change : Change} {former : Members} {gone : ℕ} {new : Members} {before after : List Operation}
    (u : IsUnderWay sound scope given told more change former gone new before after) where
  abbrev Old : Members
  Old = members_without gone former

  abbrev Before : Disk
  Before = disk given.start before

  abbrev At : ℕ → Disk
  At n = disk given.start (take n after)

  abbrev Lives : ℕ
  Lives = live_set Old change

  lives-small : (s : ℕ) → has_slot Lives s ≡ true → s < 32
  lives-small s is = below (nat_lt s 32) refl (sym (live-of Old change u.none s) ∙ is)
    where
      below : (b : Bool) → nat_lt s 32 ≡ b → (b && is_live Old.roles former.spares s) ≡ true → s < 32
      below true lt e = grind (arith, nat_tests, lt)
      below false lt e = absurd (cc)

  room-of : IsSomeLeft Lives new.lost ⊎ (length before < length after) → new.newest.events < 2 ^ 62
  room-of grew = let rise = u.did.rise tt grew in let r = u.room in omega (arith, rise, r)

  pub first-room : new.newest.events < 2 ^ 62 → former.newest.events + 1 < 2 ^ 62
  first-room small = let later = u.did.newest.events in omega (arith, later, small)

  pub few : role_count (planned_newest change.shared former.newest) ≤ 16
  few = few-roles (planned_newest change.shared former.newest) u.plan.placed.fit.valid

  -- ---- at each mark

  -- only superblocks are written, and none of the backup
  updating : (n : ℕ) → length before ≤ n → n ≤ length after → IsUpdating scope Before (At n)
  updating n low high s k = let touched = (u.did.update.marks.each tt n low high).touched in elim (cases_eq k 8) [
    | inl same ↦ ⊎_elim (λ live. inr (same, seen-own scope s (u.held.updated.held.each s (u.known s live)).seen))
        (λ dead. inl (λ v is. subst (λ (l : List Sector). IsIn l v) (touched.others s k dead) is))
        (by_bool (has_slot Lives s))
    | inr other ↦ inl (λ v is. kept_in (Before s k) (At n s k) v (touched.elsewhere s k other) is)
  ]

  pub view-at : (ledger : Ledger) (view : Members) (n : ℕ) → length before ≤ n → n ≤ length after → IsViewRight sound scope given ledger view (disk given.start before)
      → IsViewRight sound scope given ledger view (disk given.start (take n after))
  view-at ledger view n low high is = updating-right sound scope given ledger view Before (At n) (disk-somewhere given before) (updating n low high) is

  -- an image that reads as before it
  pub as-before : (n : ℕ) → length before ≤ n → n ≤ length after → (c : Contents) (lost : ℕ) → IsReadAs scope lost (said_by scope u.held.known former.own former.newest) c
      → IsSeenRight sound scope given told (disk given.start (take n after)) c
  as-before n low high c lost read = record {
    found = read.found;
    is = read.is;
    view = former;
    same = known-read scope u.held.known former u.held.said lost c read;
    right = view-at told former n low high u.right;
  }

  -- or as planned
  pub as-planned : (n : ℕ) → length before ≤ n → n ≤ length after → (c : Contents) (r : IsReadAsPlanned scope (members_without gone former) change (members_without gone former).lost (live_set (members_without gone former) change) new.lost c)
      → IsReadOf scope (planned_view (members_without gone former) change r.named) r.reads.found → IsSeenRight sound scope given more (disk given.start (take n after)) c
  as-planned n low high c r same = record {
    found = r.reads.found;
    is = r.reads.is;
    view = planned_view Old change r.named;
    same = same;
    right = view-at more (planned_view Old change r.named) n low high
        (plan-right sound scope given more Old change u.one Before r.named new.lost r.more r.within u.missing u.plan);
  }

  -- what is known of the slots that are left
  pub own-there : (named left : ℕ) → IsWithin (members_without gone former).lost named → AreLeft (live_set (members_without gone former) change) named left
      → (s : ℕ) → has_slot left s ≡ true → (s < 32) × (sb : Sb) × (own_in former.own s ≡ Some sb)
  own-there named left wider are s is =
      let live = first (has_slot Lives s) (has_slot named s) (sym (are s) ∙ is) in
      let e = u.held.updated.held.each s (u.known s live) in
      (lives-small s live, e.sb, e.own)
    where
      first : (a b : Bool) → (a && not b) ≡ true → a ≡ true
      first true b e = refl
      first false b e = absurd (cc)

  -- the slots that are left at its end
  abbrev pub Rest : ℕ
  Rest = left_set 32 (live_set (members_without gone former) change) new.lost

  pub rest-are : AreLeft (live_set (members_without gone former) change) new.lost (left_set 32 (live_set (members_without gone former) change) new.lost)
  rest-are = left-are 32 Lives new.lost lives-small

  -- What is read at its marks, and what its end leaves: it is enough where something was written, so that the event count is below its limit.
  module _ (each : new.newest.events < 2 ^ 62 → (n : ℕ) → length before ≤ n → n ≤ length after → (c : Contents) → AreDrawn (disk given.start (take n after)) c
      → IsSeenRight sound scope given told (disk given.start (take n after)) c ⊎ IsSeenRight sound scope given more (disk given.start (take n after)) c)
      (ends : new.newest.events < 2 ^ 62 → IsSomeLeft (live_set (members_without gone former) change) new.lost
      → AreHeldAlone scope (left_set 32 (live_set (members_without gone former) change) new.lost) new.lost new.newest new.own (disk given.start after)
      × AreSaidAsPlanned scope u.held.known new.lost (left_set 32 (live_set (members_without gone former) change) new.lost) (members_without gone former) change new.newest new.own) where
    seen-at : (n : ℕ) → length before ≤ n → n ≤ length after → AreEitherRight sound scope given told more (At n)
    seen-at n low high = either-right sound scope given told more (At n) (disk-somewhere given (take n after)) (λ c drawn. elim (cases_lt (length before) (length after)) [
      | inl grew ↦ each (room-of (inr grew)) n low high c drawn
      | inr short ↦ inl (
          let same : take n after ≡ before = take_all n after (omega (arith, short, low)) ∙ sym (take_all (length before) after short) ∙ u.did.update.marks.earlier tt in
          as-before n low high c former.lost (u.held.updated.reads c (subst (λ (tape : List Operation). AreDrawn (disk given.start tape) c) same drawn))
          )
    ])

    at-end : (P : Disk → Type 0) → P (At (length after)) → P (disk given.start after)
    at-end P is = subst (λ (tape : List Operation). P (disk given.start tape)) (take_all (length after) after (le_refl (length after))) is

    module _ (some : IsSomeLeft Lives new.lost) where
      alone : AreHeldAlone scope Rest new.lost new.newest new.own (disk given.start after)
      alone = (ends (room-of (inl some)) some).0

      said-as : AreSaidAsPlanned scope u.held.known new.lost Rest Old change new.newest new.own
      said-as = (ends (room-of (inl some)) some).1

      kept-then : (s : ℕ) → has_slot new.lost s ≡ false → has_slot Old.lost s ≡ false
      kept-then s none = ⊎_elim (λ is. absurd (let e = u.did.stay s is in let both = sym e ∙ none in cc)) (λ isnt. isnt) (by_bool (has_slot Old.lost s))

      live-new : AreLeft (live_set new (marking new false)) new.lost Rest
      live-new s = rest-are s ∙ ⊎_elim
          (λ is. ap (λ (b : Bool). has_slot Lives s && not b) is ∙ nothing (has_slot Lives s) (has_slot (live_set new (marking new false)) s) ∙ sym (ap (λ (b : Bool). has_slot (live_set new (marking new false)) s && not b) is))
          (λ none. ap (λ (b : Bool). b && not (has_slot new.lost s)) (sym (live-same Old new change u.gives u.did.roles u.did.spares u.none
          (λ t v r kept kept' is is'. u.one t v r (kept-then t kept) (kept-then v kept') is is')
          (λ t r kept has. u.below t r (kept-then t kept) has) s none)))
          (by_bool (has_slot new.lost s))
        where
          nothing : (a b : Bool) → (a && not true) ≡ (b && not true)
          nothing true true = refl
          nothing true false = refl
          nothing false true = refl
          nothing false false = refl

      held-new : IsHeldBy scope new (disk given.start after)
      held-new = record {
        known = Rest;
        live = live-new;
        updated = record {
          held = alone.held;
          exact = alone.exact;
          reads = λ c drawn. held-reads scope Rest new.lost new.newest new.own (disk given.start after) alone.held Rest (λ s is. is) c drawn;
        };
        said = record { roles = u.did.roles ∙ sym said-as.roles; spares = u.did.spares ∙ sym said-as.spares };
      }

      new-right : IsViewRight sound scope given more new Before
      new-right =
          let plan = plan-right sound scope given more Old change u.one Before new.lost new.lost u.did.stay (λ s is. is) u.missing u.plan in
          let less = new-less Old new change u.gives u.did.newest u.did.own u.did.roles u.did.spares in
          let placed = placed-less scope given (planned_view Old change new.lost) new less (later-fits (planned_newest change.shared former.newest) new.newest u.did.newest u.plan.placed.fit)
          (subst (λ (z : Sb). backup_absent scope z ≡ None) (sym u.did.newest.same) u.plan.placed.backup) plan.placed in
          less-right sound scope given more (planned_view Old change new.lost) new Before less placed
          (λ r lt missing. u.missing r (subst (λ (z : Sb). r < role_count z) u.did.newest.same lt) (ap (λ (l : List Role). is_missing (record (reading_of new) { roles = l }) r) (sym u.did.roles) ∙ missing)) plan

      next-named : IsNamedNow sound scope given more new (disk given.start after)
      next-named = record {
        steady = record {
          former = new;
          since = since-none scope new (disk given.start after) held-new;
          right = at-end (IsViewRight sound scope given more new) (view-at more new (length after) (u.did.update.marks.longer tt) (le_refl (length after)) new-right);
          numbers = carried-more scope told.carried more.carried new.own (disk given.start after) u.carried
              (numbers-updated scope given told.carried former Old new change new.newest new.lost (is_left Lives new.lost) before after
              tt u.none u.did.update u.did.own (record { gone = gone; since = refl; held = u.held }) u.numbers);
        };
        roles = refl;
      }

    pub stretch : IsSafeChange sound scope given told more new before after
    stretch = record {
      marks = record { longer = u.did.update.marks.longer; earlier = u.did.update.marks.earlier; each = λ one n low high. seen-at n low high };
      next = ⊎_elim (λ some. inl (next-named some))
          (λ none. inr (record {
            right = at-end (AreEitherRight sound scope given told more) (seen-at (length after) (u.did.update.marks.longer tt) (le_refl (length after)));
            none = λ some. none (some.0, (live-before Old new change u.gives u.did.roles u.did.spares some.0 some.1).0, some.2);
          }))
          (some-left Lives new.lost lives-small);
    }
