-- The first round of an update that makes a slot a spare, by what images read.
use Rattle.std.proofs.Common.{◌≡◌, ◌≢◌, ◌⊎◌, inl, inr, ⊎_elim, ℕ, ◌+◌, ◌^◌, ◌<◌, ◌≤◌, ◌==◌, Bool, true, false, cond, not, ◌&&◌, nat_lt, bit_or, List, [], ◌∷◌, replicate, Option, Some, None, refl, sym, ◌∙◌, ap, subst, le_refl, arith}
use Rattle.std.proofs.lemmas.Bool.{cases_eq}
use Rattle.std.proofs.lemmas.Bool.Decides.{nat_tests}
use Rattle.sb_read_laws.specs.raid_types_Sectors.{Sector}
use Rattle.sb_read_laws.specs.raid_types_Shapes.{has_slot}
use Rattle.sb_read_laws.specs.sb_codec_the_Sb.{Sb}
use Rattle.sb_read_laws.specs.bank_Tape.{Contents, IsIn}
use Rattle.sb_read_laws.specs.sb_specs_the_Give.{Give}
use Rattle.sb_read_laws.specs.sb_specs_the_Give_TheVariants.{Same, Spare}
use Rattle.sb_read_laws.specs.sb_specs_the_Give_TheVariants as give
use Rattle.sb_read_laws.specs.sb_specs_the_Change.{Change}
use Rattle.sb_read_laws.specs.sb_specs_the_Members.{Members}
use Rattle.sb_read_laws.specs.sb_specs_Reading.{Scope, is_fresh}
use Rattle.sb_read_laws.specs.sb_specs_Update.{planned, give_of, own_in, is_behind, is_recovery, planned_role}
use Rattle.sb_read_laws.specs.sb_specs_Writing.{IsPlanned}
use Rattle.sb_read_laws.specs.sb_specs_Updating.{planned_newest, IsLater}
use Rattle.sb_read_laws.specs.sb_specs_Reads.{IsReadAs, IsSuited, held_in, IsNewestLike}
use Rattle.sb_read_laws.specs.sb_specs_Held.{AreDrawn, MayRead, IsStamped, IsKnown, IsOther, Shows, AreHeld, AreLevel, said_by, IsFirstAsNew}
use Rattle.sb_read_laws.specs.sb_specs_Stages.{AreLeft, IsCatchingUp, IsTaking, AreTaken, IsFitPlan, AreKept, AreFirstKept}
use Rattle.sb_read_laws.specs.sb_specs_Plans.{IsFitChange}
use Rattle.sb_read_laws.specs.sb_specs_Rounds.{Round, first_newest, IsRewriting, IsRewritten, IsCatchingUpTo, IsCaughtUpTo, IsFirstRewriting}
use Rattle.sb_read_laws.specs.sb_specs_Adding.{IsReadAsPlannedBut, IsReadInAdding, IsReadyToAdd}
use Rattle.sb_read_laws.proofs.sb_specs_ReadLists.{by_bool}
use Rattle.sb_read_laws.proofs.sb_specs_Exact.{all_same}
use Rattle.sb_read_laws.proofs.sb_specs_SlotSets.{with_here, with_other}
use Rattle.sb_read_laws.proofs.sb_specs_PlannedSb.{planned-of}
use Rattle.sb_read_laws.proofs.PlanFits.{IsNext, IsPlanScope, length-any, wide-fits, plan-fits, shown-of, known-numbers, idle-number}
use Rattle.sb_read_laws.proofs.sb_specs_HeldReads.{stamped-like}
use Rattle.sb_read_laws.proofs.sb_specs_UpdateReads.{fresh_less, new_suited, planned-like}
use Rattle.sb_read_laws.proofs.sb_specs_ValidFields.{few-events}
use Rattle.sb_read_laws.proofs.StageReads.{caught_of, caught-held, catching-reads, other_read, new_of, taking-reads, taking-later, taken-held, taken-level, taken_read, shows-before, taken-like}
use Rattle.sb_read_laws.proofs.RoundReads.{IsAt, IsFit, left_set, left-are, and_first, and_second, planned_list, planned-in, kept-of}
use Rattle.sb_read_laws.proofs.RoundsRead.{more-held}

abbrev Disk : Type 0
Disk = ℕ → ℕ → List Sector

-- ---- other values in a slot's first superblock sector

pub put : ℕ → List Sector → Disk → Disk
put t row e s k = cond ((s == t) && (k == 8)) row (e s k)

same_is : (t : ℕ) → (t == t) ≡ true
same_is t = grind (arith, nat_tests)

differs : (s t : ℕ) → s ≢ t → (s == t) ≡ false
differs s t apart = grind (arith, nat_tests)

pub put_here : (t : ℕ) (row : List Sector) (e : Disk) → put t row e t 8 ≡ row
unfolding put
put_here t row e = ap (λ b. cond (b && true) row (e t 8)) (same_is t)

pub put_is : (t : ℕ) (d e : Disk) → (λ (s k : ℕ). cond ((s == t) && (k == 8)) (d t 8) (e s k)) ≡ put t (d t 8) e
unfolding put
put_is t d e = refl

pub put_slot : (t : ℕ) (row : List Sector) (e : Disk) (s k : ℕ) → s ≢ t → put t row e s k ≡ e s k
unfolding put
put_slot t row e s k apart = ap (λ b. cond (b && (k == 8)) row (e s k)) (differs s t apart)

pub put_ninth : (t : ℕ) (row : List Sector) (e : Disk) (s : ℕ) → put t row e s 9 ≡ e s 9
unfolding put
put_ninth t row e s = of (s == t)
  where
    of : (b : Bool) → cond (b && false) row (e s 9) ≡ e s 9
    of true = refl
    of false = refl

pub in_put : (t : ℕ) (row : List Sector) (e : Disk) (s : ℕ) (v : Sector) → IsIn (put t row e s 8) v → ((s ≡ t) × IsIn row v) ⊎ ((s ≢ t) × IsIn (e s 8) v)
in_put t row e s v held = elim (cases_eq s t) [
  | inl same ↦ inl (same, subst (λ (l : List Sector). IsIn l v) (put_here t row e) (subst (λ (r : ℕ). IsIn (put t row e r 8) v) same held))
  | inr apart ↦ inr (apart, subst (λ (l : List Sector). IsIn l v) (put_slot t row e s 8 apart) held)
]

pub of_put : (scope : Scope) (t : ℕ) (row : List Sector) (e : Disk) (s : ℕ) (found : Option Sb) → s ≢ t → MayRead scope (put t row e) s found → MayRead scope e s found
of_put scope t row e s found apart m = record {
  at = m.at;
  eighth = subst (λ (l : List Sector). IsIn l (m.at 8)) (put_slot t row e s 8 apart) m.eighth;
  ninth = subst (λ (l : List Sector). IsIn l (m.at 9)) (put_ninth t row e s) m.ninth;
  is = m.is;
}

pub to_put : (scope : Scope) (t : ℕ) (row : List Sector) (e : Disk) (s : ℕ) (found : Option Sb) → s ≢ t → MayRead scope e s found → MayRead scope (put t row e) s found
to_put scope t row e s found apart m = record {
  at = m.at;
  eighth = subst (λ (l : List Sector). IsIn l (m.at 8)) (sym (put_slot t row e s 8 apart)) m.eighth;
  ninth = subst (λ (l : List Sector). IsIn l (m.at 9)) (sym (put_ninth t row e s)) m.ninth;
  is = m.is;
}

pub none_read : (scope : Scope) (t : ℕ) (e : Disk) (s : ℕ) (found : Option Sb) → s ≡ t → MayRead scope (put t [] e) s found → ⊥
none_read scope t e s found same m = subst (λ (l : List Sector). IsIn l (m.at 8)) (put_here t [] e) (subst (λ (r : ℕ). IsIn (put t [] e r 8) (m.at 8)) same m.eighth)

pub known_put : (scope : Scope) (newest : Sb) (held : Option Sb) (t : ℕ) (row : List Sector) (e : Disk) (s : ℕ) → s ≢ t → IsKnown scope newest held s e → IsKnown scope newest held s (put t row e)
known_put scope newest held t row e s apart k = record {
  sb = k.sb;
  own = k.own;
  reads = λ found m. k.reads found (of_put scope t row e s found apart m);
  second = λ sector is_in. k.second sector (subst (λ (l : List Sector). IsIn l sector) (put_ninth t row e s) is_in);
  seen = k.seen;
  long = k.long;
  there = k.there;
  array = k.array;
  fresh = k.fresh;
  number = k.number;
  late = k.late;
  lies = k.lies;
  suited = k.suited;
}

-- ---- numbers and sets

not_less : (a b : ℕ) → a ≡ b → nat_lt a b ≡ false
not_less a b same = grind (arith, nat_tests)

equal : (a b : ℕ) → nat_lt a b ≡ false → a ≤ b → a ≡ b
equal a b h le = grind (arith, nat_tests)

none_of : (set s : ℕ) → (has_slot set s ≡ true → ⊥) → has_slot set s ≡ false
none_of set s never = ⊎_elim (λ is. absurd (never is)) (λ none. none) (by_bool (has_slot set s))

both_ways : {b : Bool} → b ≡ true → b ≡ false → ⊥
both_ways is none = absurd (let both = sym is ∙ none in cc)

no_recovery : (roles : List _) (g : Give) (slot : ℕ) → planned_role roles g slot ≡ None → is_recovery g ≡ false
no_recovery roles Same slot idle = refl
no_recovery roles Spare slot idle = refl
no_recovery roles (give.Role role None) slot idle = refl
no_recovery roles (give.Role role (Some offset)) slot idle = absurd (cc)

module _ (scope : Scope) (members : Members) (change : Change) (before live known left0 lost0 slot : ℕ) (d : Disk) (ready : IsReadyToAdd scope known left0 lost0 members change live slot d) where
  there : (s : ℕ) → has_slot live s ≡ true → s < scope.sizes.slots
  there s is = elim (cases_eq s slot) [
    | inl same ↦ subst (λ (t : ℕ). t < scope.sizes.slots) (sym same) ready.new.there
    | inr apart ↦ (ready.held.each s (ready.within s apart is)).there
  ]

  pub added-fit : IsFit scope known left0 members change live
  added-fit = record { there = there; are = ready.are; fits = ready.fits; fields = ready.fields }

  first_live : (s : ℕ) → has_slot left0 s ≡ true → has_slot live s ≡ true
  first_live s is = and_first (has_slot live s) (has_slot members.lost s) (sym (ready.are s) ∙ is)

  not_behind : is_behind members.newest (own_in members.own slot) ≡ false
  not_behind = ap (is_behind members.newest) ready.is ∙ not_less ready.sb.events members.newest.events ready.new.events

  not_first : is_recovery (give_of change.gives slot) ≡ false
  not_first = no_recovery members.roles (give_of change.gives slot) slot ready.idle

  -- ---- slots are brought to the newest count

  narrow_are : AreLeft live (bit_or members.lost (2 ^ slot)) (left_set scope.sizes.slots live (bit_or members.lost (2 ^ slot)))
  narrow_are = left-are scope.sizes.slots live (bit_or members.lost (2 ^ slot)) there

  abbrev Narrow : ℕ
  Narrow = left_set scope.sizes.slots live (bit_or members.lost (2 ^ slot))

  narrow_known : (s : ℕ) → has_slot Narrow s ≡ true → has_slot known s ≡ true
  narrow_known s is = ready.within s (λ same. both_ways (with_here members.lost slot)
      (subst (λ (t : ℕ). has_slot (bit_or members.lost (2 ^ slot)) t ≡ false) same (and_second (has_slot live s) (has_slot (bit_or members.lost (2 ^ slot)) s) (sym (narrow_are s) ∙ is))))
      (and_first (has_slot live s) (has_slot (bit_or members.lost (2 ^ slot)) s) (sym (narrow_are s) ∙ is))

  catching : (e : Disk) → IsRewriting members.newest (replicate 32 Same) members.own live members.lost d e → e slot 8 ≡ d slot 8 → IsCatchingUp members.newest members.own Narrow d e
  catching e stage still = record {
    values = λ s v held. ⊎_elim (λ was. inl was)
        (λ (w : (has_slot live s ≡ true) × (has_slot members.lost s ≡ false) × IsPlanned members.newest (give_of (replicate 32 Same) s) (own_in members.own s) v). elim (cases_eq s slot) [
          | inl same ↦ inl (subst (λ (t : ℕ). IsIn (d t 8) v) (sym same) (subst (λ (l : List Sector). IsIn l v) still (subst (λ (t : ℕ). IsIn (e t 8) v) same held)))
          | inr apart ↦ inr (narrow_are s ∙ (λ i. w.0 i && not ((with_other members.lost slot s apart ∙ w.1) i)), subst (λ (g : Give). IsPlanned members.newest g (own_in members.own s) v) (all_same 32 s) w.2)
        ]) (stage.values s v held);
    ninth = stage.ninth;
  }

  pub added-before : (e : Disk) (c : Contents) → IsCatchingUpTo members.newest members.own live members.lost d e → AreDrawn e c → IsReadAs scope lost0 (said_by scope known members.own members.newest) c
  added-before e c at drawn = catching-reads scope known lost0 members.newest members.own d ready.held Narrow narrow_known e c (catching e at.stage (at.still slot not_behind)) drawn

  -- ---- the first round

  module _ (mid : Round) (caught : IsCaughtUpTo members.newest members.own live members.lost d mid) where
    abbrev Gone : ℕ
    Gone = bit_or mid.lost (2 ^ slot)

    abbrev Left : ℕ
    Left = left_set scope.sizes.slots live mid.lost

    abbrev Rest : ℕ
    Rest = left_set scope.sizes.slots live (bit_or mid.lost (2 ^ slot))

    abbrev N : Sb
    N = first_newest members change before mid.lost members.newest

    abbrev Own : List (Option Sb)
    Own = planned_list (first_newest members change before mid.lost members.newest) change.gives members.own

    slot_kept : has_slot mid.lost slot ≡ false
    slot_kept = none_of mid.lost slot (λ is. both_ways (caught.due slot is ready.found) not_behind)

    caught_stage : IsCatchingUp members.newest members.own Narrow d mid.disk
    caught_stage = catching mid.disk caught.stage (caught.still slot not_behind)

    held : AreHeld scope known lost0 members.newest members.own mid.disk
    held = caught-held scope known lost0 members.newest members.own d ready.held Narrow narrow_known mid.disk caught_stage

    gone_more : (s : ℕ) → has_slot mid.lost s ≡ true → has_slot Gone s ≡ true
    gone_more s is = elim (cases_eq s slot) [
      | inl same ↦ subst (λ (t : ℕ). has_slot Gone t ≡ true) (sym same) (with_here mid.lost slot)
      | inr apart ↦ with_other mid.lost slot s apart ∙ is
    ]

    gone_first : (s : ℕ) → has_slot lost0 s ≡ true → has_slot Gone s ≡ true
    gone_first s is = elim (cases_eq s slot) [
      | inl same ↦ subst (λ (t : ℕ). has_slot Gone t ≡ true) (sym same) (with_here mid.lost slot)
      | inr apart ↦ with_other mid.lost slot s apart ∙ caught.more s (ready.same s apart ∙ is)
    ]

    heldG : AreHeld scope known Gone members.newest members.own mid.disk
    heldG = more-held scope known lost0 Gone members.newest members.own mid.disk gone_first held

    are : AreLeft live mid.lost Left
    are = left-are scope.sizes.slots live mid.lost there

    rest_are : AreLeft live Gone Rest
    rest_are = left-are scope.sizes.slots live Gone there

    left_live : (s : ℕ) → has_slot Left s ≡ true → has_slot live s ≡ true
    left_live s is = and_first (has_slot live s) (has_slot mid.lost s) (sym (are s) ∙ is)

    left_kept : (s : ℕ) → has_slot Left s ≡ true → has_slot mid.lost s ≡ false
    left_kept s is = and_second (has_slot live s) (has_slot mid.lost s) (sym (are s) ∙ is)

    slot_left : has_slot Left slot ≡ true
    slot_left = are slot ∙ (λ i. ready.is_live i && not (slot_kept i))

    rest_live : (s : ℕ) → has_slot Rest s ≡ true → has_slot live s ≡ true
    rest_live s is = and_first (has_slot live s) (has_slot Gone s) (sym (rest_are s) ∙ is)

    rest_kept : (s : ℕ) → has_slot Rest s ≡ true → has_slot Gone s ≡ false
    rest_kept s is = and_second (has_slot live s) (has_slot Gone s) (sym (rest_are s) ∙ is)

    rest_apart : (s : ℕ) → has_slot Rest s ≡ true → s ≢ slot
    rest_apart s is same = both_ways (with_here mid.lost slot) (subst (λ (t : ℕ). has_slot Gone t ≡ false) same (rest_kept s is))

    rest_known : (s : ℕ) → has_slot Rest s ≡ true → has_slot known s ≡ true
    rest_known s is = ready.within s (rest_apart s is) (rest_live s is)

    rest_left : (s : ℕ) → has_slot Rest s ≡ true → has_slot Left s ≡ true
    rest_left s is = are s ∙ (λ i. rest_live s is i && not ((sym (with_other mid.lost slot s (rest_apart s is)) ∙ rest_kept s is) i))

    left_rest : (s : ℕ) → s ≢ slot → has_slot Left s ≡ true → has_slot Rest s ≡ true
    left_rest s apart is = rest_are s ∙ (λ i. left_live s is i && not ((with_other mid.lost slot s apart ∙ left_kept s is) i))

    unlost : (s : ℕ) → has_slot mid.lost s ≡ false → has_slot members.lost s ≡ false
    unlost s none = none_of members.lost s (λ is. both_ways (caught.more s is) none)

    left_first : (s : ℕ) → has_slot Left s ≡ true → has_slot left0 s ≡ true
    left_first s is = ready.are s ∙ (λ i. left_live s is i && not (unlost s (left_kept s is) i))

    of_first : (s : ℕ) → has_slot mid.lost s ≡ false → has_slot left0 s ≡ true → has_slot Left s ≡ true
    of_first s none is = are s ∙ (λ i. first_live s is i && not (none i))

    level : AreLevel scope Rest members.newest mid.disk
    level s found is m =
        let k = ready.held.each s (rest_known s is) in
        ⊎_elim
        (λ was.
        let x = ready.exact s k.sb found (rest_apart s is) (left_first s (rest_left s is)) k.own (record { at = m.at; eighth = was.1; ninth = caught.stage.ninth s (m.at 9) m.ninth; is = m.is }) in
        (record k.sb { sb_csum = x.0 }, x.1, equal k.sb.events members.newest.events (sym (ap (is_behind members.newest) k.own) ∙ was.0) k.suited.events))
        (λ plan.
        let r = caught_of scope known lost0 members.newest members.own d ready.held Narrow narrow_known s (rest_known s is) m.at plan (caught.stage.ninth s (m.at 9) m.ninth) in
        (record r.0 { sb_csum = r.1.0 }, sym m.is ∙ r.1.1, r.3))
        (caught.level s (rest_live s is) (left_kept s (rest_left s is)) (m.at 8) m.eighth)

    fits : IsFitChange known mid.lost Left members change
    fits = record {
      role = λ s role none is. of_first s none (ready.fits.role s role (unlost s none) is);
      below = λ s role none is. ready.fits.below s role (unlost s none) is;
      spare = λ s none is. of_first s none (ready.fits.spare s (unlost s none) is);
      one_holder = λ s t role none none' is is'. ready.fits.one_holder s t role (unlost s none) (unlost t none') is is';
      fields = ready.fits.fields;
      size = ready.fits.size;
      written = λ s is none. of_first s none (ready.fits.written s is (unlost s none));
      devices = λ s sb is own_is. ready.fits.devices s sb (left_first s is) own_is;
      one = λ s t is is' r r'. ready.fits.one s t (left_first s is) (left_first t is') r r';
    }

    is_next : IsNext members change before mid.lost members.newest N
    is_next = record {
      roles = refl;
      room = refl;
      later = next_events (few-events members.newest [] ready.held.sound.fields);
      size = ready.fits.size;
      fields = ready.fits.fields;
      count = refl;
    }
      where
        next_events : members.newest.events < 2 ^ 62 → N.events ≡ members.newest.events + 1
        next_events small = omega (arith, small)

    -- in no image has another slot the number of the one that is made a spare
    apart : (s : ℕ) (a : Sb) → s ≢ slot → Shows scope known members.own mid.disk s a → is_fresh members.newest a ≡ true → a.dev_number ≢ ready.sb.dev_number
    apart s a differ (inl is) fresh = ready.new.apart s a differ (inl is) fresh
    apart s a differ (inr (none, m)) fresh =
        ready.new.apart s a differ (inr (none, other_read scope known lost0 members.newest members.own d ready.held Narrow narrow_known mid.disk caught_stage s (Some a) none m)) fresh

    own_new : (sb : Sb) → own_in members.own slot ≡ Some sb → ready.sb ≡ sb
    own_new sb is = let both : Some ready.sb ≡ Some sb = sym ready.is ∙ is in cc

    numbers : (s t : ℕ) (a sb : Sb) → s ≢ t → MayRead scope mid.disk s (Some a) → is_fresh members.newest a ≡ true → has_slot Left t ≡ true → own_in members.own t ≡ Some sb → sb.dev_number ≢ a.dev_number
    numbers s t a sb differ m fresh is own_is = elim (cases_eq t slot) [
      | inl same ↦ λ number.
          let shown = shown-of scope known lost0 members.newest members.own mid.disk held s a m fresh in
          apart s shown.0 (λ e. differ (e ∙ sym same)) shown.1 shown.2
          (shown.3 ∙ sym number ∙ ap (λ (z : Sb). z.dev_number) (sym (own_new sb (subst (λ (r : ℕ). own_in members.own r ≡ Some sb) same own_is))))
      | inr other ↦ known-numbers scope known lost0 members.newest members.own mid.disk held s t a sb differ m fresh (ready.within t other (left_live t is)) own_is
    ]

    scoped : IsPlanScope scope mid.lost Gone Rest Left members change members.newest mid.disk
    scoped = record {
      more = gone_more;
      outer = λ s none kept. none_of Left s (λ is. both_ways (rest_are s ∙ (λ i. left_live s is i && not (kept i))) none);
      role = λ s t role none is_role is same. elim (cases_eq t slot) [
        | inl here ↦ let none_role = subst (λ (r : ℕ). planned_role members.roles (give_of change.gives r) r ≡ Some role) here is_role in absurd (let both = sym ready.idle ∙ none_role in cc)
        | inr other ↦ both_ways (left_rest t other is) (subst (λ (r : ℕ). has_slot Rest r ≡ false) same none)
      ];
      numbers = numbers;
    }

    -- the plan without that slot
    fit : IsFitPlan scope Gone members.newest N change.gives members.own Rest mid.disk
    fit = wide-fits scope known mid.lost Gone Rest Left before members change members.newest N members.own mid.disk heldG fits is_next scoped change.gives
        (λ s sb is own_is. ready.fits.devices s sb (left_first s (rest_left s is)) own_is)
        (λ s t is is' r r'. ready.fits.one s t (left_first s (rest_left s is)) (left_first t (rest_left t is')) r r')

    own_next : (s : ℕ) (sb : Sb) → own_in members.own s ≡ Some sb → own_in Own s ≡ Some (planned N (give_of change.gives s) sb)
    own_next s sb own_is = planned-in N change.gives members.own s sb own_is

    kept_rest : AreKept N change.gives members.own Rest Own
    kept_rest = kept-of N change.gives members.own Own Rest (λ s sb is own_is. own_next s sb own_is)

    kept_left : AreKept N change.gives members.own Left Own
    kept_left = kept-of N change.gives members.own Own Left (λ s sb is own_is. own_next s sb own_is)

    later : IsLater (planned_newest change.shared members.newest) N
    later = record { events = le_refl _; same = refl }

    -- an image in which the slot has its former sector
    rest_taking : (e : Disk) → IsFirstRewriting N change.gives members.own live mid.lost mid.disk e → IsTaking N change.gives members.own Rest mid.disk (put slot (mid.disk slot 8) e)
    rest_taking e f = record {
      values = λ s v is_in. ⊎_elim
          (λ here. inl (subst (λ (t : ℕ). IsIn (mid.disk t 8) v) (sym here.0) here.1))
          (λ other. ⊎_elim (λ was. inl was) (λ w. inr (left_rest s other.0 (are s ∙ (λ i. w.0 i && not (w.1 i))), w.2)) (f.stage.values s v other.1))
          (in_put slot (mid.disk slot 8) e s v is_in);
      order = ⊎_elim
          (λ others. inl (λ s v none is_in. ⊎_elim
          (λ here. subst (λ (t : ℕ). IsIn (mid.disk t 8) v) (sym here.0) here.1)
          (λ other. others s v none other.1)
          (in_put slot (mid.disk slot 8) e s v is_in)))
          (λ all. inr (λ s v is r is_in. ⊎_elim
          (λ here. absurd (rest_apart s is here.0))
          (λ other. all s v (rest_live s is) (left_kept s (rest_left s is)) r other.1)
          (in_put slot (mid.disk slot 8) e s v is_in)))
          f.order;
      ninth = λ s v is_in. f.stage.ninth s v (subst (λ (l : List Sector). IsIn l v) (put_ninth slot (mid.disk slot 8) e s) is_in);
    }

    put_drawn : (row : List Sector) (e : Disk) (c : Contents) → IsIn row (c slot 8) → AreDrawn e c → AreDrawn (put slot row e) c
    put_drawn row e c is drawn s = (
      elim (cases_eq s slot) [
        | inl same ↦ subst (λ (t : ℕ). IsIn (put slot row e t 8) (c t 8)) (sym same) (subst (λ (l : List Sector). IsIn l (c slot 8)) (sym (put_here slot row e)) is)
        | inr other ↦ subst (λ (l : List Sector). IsIn l (c s 8)) (sym (put_slot slot row e s 8 other)) (drawn s).0
      ],
      subst (λ (l : List Sector). IsIn l (c s 9)) (sym (put_ninth slot row e s)) (drawn s).1,
    )

    rest_reads : (e : Disk) (c : Contents) → IsFirstRewriting N change.gives members.own live mid.lost mid.disk e → AreDrawn e c → IsIn (mid.disk slot 8) (c slot 8)
        → IsReadInAdding scope known members change before live mid.lost slot d (λ s. (s ≡ slot) × IsIn (d slot 8) (c slot 8)) c
    rest_reads e c f drawn was =
        let former : IsIn (d slot 8) (c slot 8) = subst (λ (l : List Sector). IsIn l (c slot 8)) (caught.still slot not_behind) was in
        ⊎_elim
        (λ r. inl (former, record { lost = Gone; more = λ s is. gone_more s (caught.more s is); reads = r }))
        (λ r. inr (record {
          newest = N;
          named = mid.lost;
          gone = Gone;
          lost = Gone;
          left = Rest;
          own = Own;
          are = rest_are;
          more = caught.more;
          named_gone = gone_more;
          unnamed = λ s is. elim (cases_eq s slot) [
            | inl same ↦ inr (same, former)
            | inr other ↦ inl (sym (with_other mid.lost slot s other) ∙ is)
          ];
          grown = λ s is. is;
          within = λ s is. is;
          later = later;
          plan = (members.newest.dev_roles, refl);
          table = length-any members change before mid.lost members.newest.dev_roles ∙ held.table;
          kept = kept_rest;
          reads = r;
        }))
        (taking-reads scope known Gone members.newest members.own mid.disk heldG Rest rest_known level N change.gives fit Own kept_rest (put slot (mid.disk slot 8) e) c (rest_taking e f)
        (put_drawn (mid.disk slot 8) e c was drawn))

    -- ---- an image in which the slot has its new sector, as if it had no other

    abbrev Wide : ℕ
    Wide = bit_or known (2 ^ slot)

    abbrev Emptied : Disk
    Emptied = put slot [] mid.disk

    wide_known : (s : ℕ) → s ≢ slot → has_slot Wide s ≡ true → has_slot known s ≡ true
    wide_known s other is = sym (with_other known slot s other) ∙ is

    wide_none : (s : ℕ) → has_slot Wide s ≡ false → (s ≢ slot) × (has_slot known s ≡ false)
    wide_none s none =
        let other : s ≢ slot = (λ same. both_ways (with_here known slot) (subst (λ (t : ℕ). has_slot Wide t ≡ false) same none)) in
        (other, sym (with_other known slot s other) ∙ none)

    slot_is_known : IsKnown scope members.newest (own_in members.own slot) slot Emptied
    slot_is_known = record {
      sb = ready.sb;
      own = ready.is;
      reads = λ found m. absurd (none_read scope slot mid.disk slot found refl m);
      second = λ sector is_in. ready.new.second sector (caught.stage.ninth slot sector (subst (λ (l : List Sector). IsIn l sector) (put_ninth slot [] mid.disk slot) is_in));
      seen = ready.new.seen;
      long = ready.new.long;
      there = ready.new.there;
      array = ready.new.array;
      fresh = fresh_less members.newest.events ready.sb.events (omega (arith, ready.new.events));
      number = ready.new.number;
      late = ready.new.late;
      lies = ready.new.lies;
      suited = ready.new.suited;
    }

    emptied_each : (s : ℕ) → has_slot Wide s ≡ true → IsKnown scope members.newest (own_in members.own s) s Emptied
    emptied_each s is = elim (cases_eq s slot) [
      | inl same ↦ subst (λ (t : ℕ). IsKnown scope members.newest (own_in members.own t) t Emptied) (sym same) slot_is_known
      | inr other ↦ known_put scope members.newest (own_in members.own s) slot [] mid.disk s other (held.each s (wide_known s other is))
    ]

    emptied_shows : (s : ℕ) (a : Sb) → Shows scope Wide members.own Emptied s a → ((s ≡ slot) × (a ≡ ready.sb)) ⊎ ((s ≢ slot) × Shows scope known members.own mid.disk s a)
    emptied_shows s a (inl (is, own_is)) = elim (cases_eq s slot) [
      | inl same ↦ inl (same, sym (own_new a (subst (λ (t : ℕ). own_in members.own t ≡ Some a) same own_is)))
      | inr other ↦ inr (other, inl (wide_known s other is, own_is))
    ]
    emptied_shows s a (inr (none, m)) =
        let w = wide_none s none in
        inr (w.0, inr (w.1, of_put scope slot [] mid.disk s (Some a) w.0 m))

    unlost_first : (s : ℕ) → s ≢ slot → has_slot mid.lost s ≡ false → has_slot lost0 s ≡ false
    unlost_first s other none = none_of lost0 s (λ is. both_ways (caught.more s (ready.same s other ∙ is)) none)

    -- the slot that is emptied shows nothing, so the first that is as new stands below it
    emptied_first : (s : ℕ) (sb : Sb) → IsFirstAsNew scope members.newest Emptied s sb → IsNewestLike members.newest sb
    emptied_first s sb f = held.first s sb (record {
      there = f.there;
      shown = f.shown;
      may = λ t low. of_put scope slot [] mid.disk t (f.shown t) (λ same. none_read scope slot mid.disk t (f.shown t) same (f.may t low)) (f.may t low);
      is = f.is;
      events = f.events;
      none = f.none;
    })

    emptied_held : AreHeld scope Wide mid.lost members.newest members.own Emptied
    emptied_held = record {
      sound = held.sound;
      table = held.table;
      each = emptied_each;
      others = λ s there_ none.
          let w = wide_none s none in
          let o = held.others s there_ w.1 in
          record {
            suited = λ sb m. o.suited sb (of_put scope slot [] mid.disk s (Some sb) w.0 m);
            role = λ role found h m. o.role role found h (of_put scope slot [] mid.disk s found w.0 m);
            spare = λ found kept m. o.spare found (unlost_first s w.0 kept) (of_put scope slot [] mid.disk s found w.0 m);
          };
      top = (
        held.top.0,
        held.top.1,
        λ found m. elim (cases_eq held.top.0 slot) [
          | inl same ↦ absurd (none_read scope slot mid.disk held.top.0 found same m)
          | inr other ↦ held.top.2 found (of_put scope slot [] mid.disk held.top.0 found other m)
        ],
      );
      first = emptied_first;
      apart = λ s t a b differ is is' fresh fresh'. ⊎_elim
          (λ here. ⊎_elim
          (λ here'. absurd (differ (here.0 ∙ sym here'.0)))
          (λ other'. λ number. apart t b other'.0 other'.1 fresh' (sym number ∙ ap (λ (z : Sb). z.dev_number) here.1))
          (emptied_shows t b is'))
          (λ other. ⊎_elim
          (λ here'. λ number. apart s a other.0 other.1 fresh (number ∙ ap (λ (z : Sb). z.dev_number) here'.1))
          (λ other'. held.apart s t a b differ other.1 other'.1 fresh fresh')
          (emptied_shows t b is'))
          (emptied_shows s a is);
    }

    left_wide : (s : ℕ) → has_slot Left s ≡ true → has_slot Wide s ≡ true
    left_wide s is = elim (cases_eq s slot) [
      | inl same ↦ subst (λ (t : ℕ). has_slot Wide t ≡ true) (sym same) (with_here known slot)
      | inr other ↦ with_other known slot s other ∙ ready.within s other (left_live s is)
    ]

    left_level : AreLevel scope Left members.newest Emptied
    left_level s found is m = elim (cases_eq s slot) [
      | inl same ↦ absurd (none_read scope slot mid.disk s found same m)
      | inr other ↦ level s found (left_rest s other is) (of_put scope slot [] mid.disk s found other m)
    ]

    wide_change : IsFitChange Wide mid.lost Left members change
    wide_change = record {
      role = fits.role;
      below = fits.below;
      spare = fits.spare;
      one_holder = fits.one_holder;
      fields = fits.fields;
      size = fits.size;
      written = λ s is none. elim (cases_eq s slot) [
        | inl same ↦ subst (λ (t : ℕ). has_slot Left t ≡ true) (sym same) slot_left
        | inr other ↦ fits.written s (wide_known s other is) none
      ];
      devices = fits.devices;
      one = fits.one;
    }

    left_fit : IsFitPlan scope mid.lost members.newest N change.gives members.own Left Emptied
    left_fit = plan-fits scope Wide mid.lost Left before members change Emptied emptied_held left_wide wide_change

    -- with a sector that is planned
    new_taking : (e : Disk) (row : List Sector) → IsFirstRewriting N change.gives members.own live mid.lost mid.disk e
        → ((v : Sector) → IsIn row v → IsPlanned N (give_of change.gives slot) (own_in members.own slot) v)
        → ((s : ℕ) (v : Sector) → has_slot live s ≡ true → has_slot mid.lost s ≡ false → is_recovery (give_of change.gives s) ≡ true → IsIn (e s 8) v → IsPlanned N (give_of change.gives s) (own_in members.own s) v)
        → IsTaking N change.gives members.own Left Emptied (put slot row e)
    new_taking e row f plan all = record {
      values = λ s v is_in. ⊎_elim
          (λ here. inr (subst (λ (t : ℕ). (has_slot Left t ≡ true) × IsPlanned N (give_of change.gives t) (own_in members.own t) v) (sym here.0) (slot_left, plan v here.1)))
          (λ other. ⊎_elim (λ was. inl (subst (λ (l : List Sector). IsIn l v) (sym (put_slot slot [] mid.disk s 8 other.0)) was))
          (λ w. inr (are s ∙ (λ i. w.0 i && not (w.1 i)), w.2)) (f.stage.values s v other.1))
          (in_put slot row e s v is_in);
      order = inr (λ s v is r is_in. ⊎_elim
          (λ here. absurd (both_ways (subst (λ (t : ℕ). is_recovery (give_of change.gives t) ≡ true) here.0 r) not_first))
          (λ other. all s v (left_live s is) (left_kept s is) r other.1)
          (in_put slot row e s v is_in));
      ninth = λ s v is_in. subst (λ (l : List Sector). IsIn l v) (sym (put_ninth slot [] mid.disk s)) (f.stage.ninth s v (subst (λ (l : List Sector). IsIn l v) (put_ninth slot row e s) is_in));
    }

    new_reads : (e : Disk) (c : Contents) → IsFirstRewriting N change.gives members.own live mid.lost mid.disk e → AreDrawn e c
        → IsPlanned N (give_of change.gives slot) (own_in members.own slot) (c slot 8)
        → ((s : ℕ) (v : Sector) → has_slot live s ≡ true → has_slot mid.lost s ≡ false → is_recovery (give_of change.gives s) ≡ true → IsIn (e s 8) v → IsPlanned N (give_of change.gives s) (own_in members.own s) v)
        → IsReadAsPlannedBut scope members change before live mid.lost (λ s. (s ≡ slot) × IsIn (d slot 8) (c slot 8)) c
    new_reads e c f drawn plan all =
        let row : List Sector = c slot 8 ∷ [] in
        let stage = new_taking e row f (λ v is_in. ⊎_elim (λ same. subst (IsPlanned N (give_of change.gives slot) (own_in members.own slot)) (sym same) plan) (λ none. absurd none) is_in) all in
        let ninth : IsIn (Emptied slot 9) (c slot 9) = stage.ninth slot (c slot 9) (subst (λ (l : List Sector). IsIn l (c slot 9)) (sym (put_ninth slot row e slot)) (drawn slot).1) in
        record {
          newest = N;
          named = mid.lost;
          gone = mid.lost;
          lost = mid.lost;
          left = Left;
          own = Own;
          are = are;
          more = caught.more;
          named_gone = λ s is. is;
          unnamed = λ s is. inl is;
          grown = λ s is. is;
          within = λ s is. is;
          later = later;
          plan = (members.newest.dev_roles, refl);
          table = length-any members change before mid.lost members.newest.dev_roles ∙ held.table;
          kept = kept_left;
          reads = taking-later scope Wide mid.lost members.newest members.own Emptied emptied_held Left left_wide left_level N change.gives left_fit Own kept_left (put slot row e) c stage (put_drawn row e c (inl refl) drawn)
              (slot, slot_left, new_of scope Wide mid.lost members.newest members.own Emptied emptied_held Left left_wide left_level N change.gives left_fit Own kept_left slot slot_left (c slot) plan ninth);
        }

    pub added-first : (e : Disk) (c : Contents) → IsFirstRewriting N change.gives members.own live mid.lost mid.disk e → AreDrawn e c
        → IsReadInAdding scope known members change before live mid.lost slot d (λ s. (s ≡ slot) × IsIn (d slot 8) (c slot 8)) c
    added-first e c f drawn = ⊎_elim
        (λ others. rest_reads e c f drawn (others slot (c slot 8) not_first (drawn slot).0))
        (λ all. ⊎_elim (λ was. rest_reads e c f drawn was) (λ w. inr (new_reads e c f drawn w.2 all)) (f.stage.values slot (c slot 8) (drawn slot).0))
        f.order

    -- ---- after the round

    module _ (l' : ℕ) (d' : Disk) (written : IsRewritten N change.gives members.own live mid.lost l' mid.disk d') (f : IsFirstRewriting N change.gives members.own live mid.lost mid.disk d')
        (first : AreFirstKept change.gives mid.lost l') (some : (s : ℕ) × (has_slot live s ≡ true) × (has_slot l' s ≡ false)) where
      abbrev Taken : ℕ
      Taken = left_set scope.sizes.slots live l'

      taken_are : AreLeft live l' Taken
      taken_are = left-are scope.sizes.slots live l' there

      taken_live : (s : ℕ) → has_slot Taken s ≡ true → has_slot live s ≡ true
      taken_live s is = and_first (has_slot live s) (has_slot l' s) (sym (taken_are s) ∙ is)

      taken_kept : (s : ℕ) → has_slot Taken s ≡ true → has_slot l' s ≡ false
      taken_kept s is = and_second (has_slot live s) (has_slot l' s) (sym (taken_are s) ∙ is)

      taken_is : (s : ℕ) → has_slot live s ≡ true → has_slot l' s ≡ false → has_slot Taken s ≡ true
      taken_is s is none = taken_are s ∙ (λ i. is i && not (none i))

      still_kept : (s : ℕ) → has_slot l' s ≡ false → has_slot mid.lost s ≡ false
      still_kept s none = none_of mid.lost s (λ is. both_ways (written.more s is) none)

      taken_left : (s : ℕ) → has_slot Taken s ≡ true → has_slot Left s ≡ true
      taken_left s is = are s ∙ (λ i. taken_live s is i && not (still_kept s (taken_kept s is) i))

      first_not_lost : (s : ℕ) → has_slot mid.lost s ≡ false → is_recovery (give_of change.gives s) ≡ true → has_slot l' s ≡ false
      first_not_lost s none r = none_of l' s (λ gone. both_ways (first s r gone) none)

      some_taken : (s : ℕ) × (has_slot Taken s ≡ true)
      some_taken = (some.0, taken_is some.0 some.1 some.2)

      all_first : (s : ℕ) (v : Sector) → has_slot live s ≡ true → has_slot mid.lost s ≡ false → is_recovery (give_of change.gives s) ≡ true → IsIn (d' s 8) v → IsPlanned N (give_of change.gives s) (own_in members.own s) v
      all_first s v is none r is_in = written.whole s v is (first_not_lost s none r) is_in

      -- the slot wasn't lost
      module _ (kept : has_slot l' slot ≡ false) where
        stage3 : IsTaking N change.gives members.own Left Emptied d'
        stage3 = record {
          values = λ s v is_in. elim (cases_eq s slot) [
            | inl same ↦ inr (subst (λ (t : ℕ). (has_slot Left t ≡ true) × IsPlanned N (give_of change.gives t) (own_in members.own t) v) (sym same)
                (slot_left, written.whole slot v ready.is_live kept (subst (λ (t : ℕ). IsIn (d' t 8) v) same is_in)))
            | inr other ↦ other_values s v other (f.stage.values s v is_in)
          ];
          order = inr (λ s v is r is_in. all_first s v (left_live s is) (left_kept s is) r is_in);
          ninth = λ s v is_in. subst (λ (l : List Sector). IsIn l v) (sym (put_ninth slot [] mid.disk s)) (f.stage.ninth s v is_in);
        }
          where
            other_values : (s : ℕ) (v : Sector) → s ≢ slot → IsIn (mid.disk s 8) v ⊎ ((has_slot live s ≡ true) × (has_slot mid.lost s ≡ false) × IsPlanned N (give_of change.gives s) (own_in members.own s) v)
                → IsIn (Emptied s 8) v ⊎ ((has_slot Left s ≡ true) × IsPlanned N (give_of change.gives s) (own_in members.own s) v)
            other_values s v other (inl was) = inl (subst (λ (l : List Sector). IsIn l v) (sym (put_slot slot [] mid.disk s 8 other)) was)
            other_values s v other (inr (is, none, plan)) = inr (are s ∙ (λ i. is i && not (none i)), plan)

        whole3 : AreTaken N change.gives members.own Taken d'
        whole3 s v is is_in = written.whole s v (taken_live s is) (taken_kept s is) is_in

        first3 : (s : ℕ) → has_slot Left s ≡ true → is_recovery (give_of change.gives s) ≡ true → has_slot Taken s ≡ true
        first3 s is r = taken_is s (left_live s is) (first_not_lost s (left_kept s is) r)

        kept-end : IsAt scope members change before live (λ s. s ≡ slot) 0 (record { newest = N; lost = l'; disk = d' })
        kept-end = record {
          known = Left;
          named = mid.lost;
          gone = mid.lost;
          own = Own;
          held = taken-held scope Wide mid.lost members.newest members.own Emptied emptied_held Left left_wide left_level N change.gives left_fit Own kept_left d' stage3 Taken l' whole3 some_taken taken_left first3 written.more;
          level = λ s found is none m. taken-level scope Wide mid.lost members.newest members.own Emptied emptied_held Left left_wide left_level N change.gives left_fit Own kept_left d' stage3 Taken l' whole3 some_taken taken_left first3 written.more
              s found (taken_is s is none) m;
          exact = λ s sb found is none own_is m.
              let t = taken_is s is none in
              let l = taken_left s t in
              let k = emptied_held.each s (left_wide s l) in
              let new = taken_read scope Wide mid.lost members.newest members.own Emptied emptied_held Left left_wide left_level N change.gives left_fit Own kept_left d' stage3 Taken l' whole3 some_taken taken_left first3 written.more s l found t m in
              let last : planned N (give_of change.gives s) k.sb ≡ sb = (let both : Some (planned N (give_of change.gives s) k.sb) ≡ Some sb = sym (own_next s k.sb k.own) ∙ own_is in cc) in
              subst (λ (z : Sb). IsStamped z found) last new;
          are = are;
          more = caught.more;
          named_gone = λ s is. is;
          unnamed = λ s is. inl is;
          grown = written.more;
          later = later;
          plan = (members.newest.dev_roles, refl);
          own_is = λ s sb is own_is. own_next s sb own_is;
          own_was = λ s is. let k = emptied_held.each s (left_wide s is) in (k.sb, k.own);
          events = omega (arith, left_fit.later);
        }

      -- it was: what it holds has no part in the array
      module _ (gone : has_slot l' slot ≡ true) where
        abbrev Former : Disk
        Former = put slot (mid.disk slot 8) d'

        apart_taken : (s : ℕ) → has_slot Taken s ≡ true → s ≢ slot
        apart_taken s is same = both_ways gone (subst (λ (t : ℕ). has_slot l' t ≡ false) same (taken_kept s is))

        taken_rest : (s : ℕ) → has_slot Taken s ≡ true → has_slot Rest s ≡ true
        taken_rest s is = left_rest s (apart_taken s is) (taken_left s is)

        whole4 : AreTaken N change.gives members.own Taken Former
        whole4 s v is is_in = ⊎_elim (λ here. absurd (apart_taken s is here.0)) (λ other. written.whole s v (taken_live s is) (taken_kept s is) other.1) (in_put slot (mid.disk slot 8) d' s v is_in)

        first4 : (s : ℕ) → has_slot Rest s ≡ true → is_recovery (give_of change.gives s) ≡ true → has_slot Taken s ≡ true
        first4 s is r = taken_is s (rest_live s is) (first_not_lost s (left_kept s (rest_left s is)) r)

        more4 : (s : ℕ) → has_slot Gone s ≡ true → has_slot l' s ≡ true
        more4 s is = elim (cases_eq s slot) [
          | inl same ↦ subst (λ (t : ℕ). has_slot l' t ≡ true) (sym same) gone
          | inr other ↦ written.more s (sym (with_other mid.lost slot s other) ∙ is)
        ]

        held4 : AreHeld scope Rest l' N Own Former
        held4 = taken-held scope known Gone members.newest members.own mid.disk heldG Rest rest_known level N change.gives fit Own kept_rest Former (rest_taking d' f) Taken l' whole4 some_taken taken_rest first4 more4

        shows_mid : (s : ℕ) (a : Sb) → Shows scope Rest Own Former s a → is_fresh N a ≡ true → (b : Sb) × Shows scope known members.own mid.disk s b × (is_fresh members.newest b ≡ true) × (b.dev_number ≡ a.dev_number)
        shows_mid s a is fresh = shows-before scope known Gone members.newest members.own mid.disk heldG Rest rest_known level N change.gives fit Own kept_rest Former (rest_taking d' f) Taken l' whole4 some_taken taken_rest first4 more4 s a is fresh

        abbrev New : Sb
        New = planned N (give_of change.gives slot) ready.sb

        -- what the slot may have: a former superblock, or the planned one
        slot_read : (found : Option Sb) → MayRead scope d' slot found → MayRead scope Former slot found ⊎ IsStamped New found
        slot_read found m = ⊎_elim
            (λ was. inl (record {
              at = m.at;
              eighth = subst (λ (l : List Sector). IsIn l (m.at 8)) (sym (put_here slot (mid.disk slot 8) d')) was;
              ninth = subst (λ (l : List Sector). IsIn l (m.at 9)) (sym (put_ninth slot (mid.disk slot 8) d' slot)) m.ninth;
              is = m.is;
            }))
            (λ w. inr (new_stamped w.2))
            (f.stage.values slot (m.at 8) m.eighth)
          where
            new_stamped : IsPlanned N (give_of change.gives slot) (own_in members.own slot) (m.at 8) → IsStamped New found
            new_stamped plan =
                let k = emptied_held.each slot (left_wide slot slot_left) in
                let same : k.sb ≡ ready.sb = sym (own_new k.sb k.own) in
                let ninth : IsIn (Emptied slot 9) (m.at 9) = subst (λ (l : List Sector). IsIn l (m.at 9)) (sym (put_ninth slot [] mid.disk slot)) (f.stage.ninth slot (m.at 9) m.ninth) in
                subst (λ (z : Sb). IsStamped (planned N (give_of change.gives slot) z) found) same
                (subst (λ (x : Option Sb). IsStamped (planned N (give_of change.gives slot) k.sb) x) m.is
                (new_of scope Wide mid.lost members.newest members.own Emptied emptied_held Left left_wide left_level N change.gives left_fit Own kept_left slot slot_left m.at plan ninth))

        new_number : (csum : ℕ) → (record New { sb_csum = csum }).dev_number ≡ ready.sb.dev_number
        new_number csum = (planned-of N ready.sb (give_of change.gives slot)).number

        -- the planned superblock has no role
        new_idle : (role : ℕ) (csum : ℕ) → role < 16 → held_in N role slot (Some (record New { sb_csum = csum })) ≡ None
        new_idle role csum h = idle-number scope known mid.lost Gone Rest Left before members change members.newest N members.own mid.disk heldG fits is_next scoped slot (record New { sb_csum = csum })
            (let same = new_number csum in let small = ready.new.number in omega (arith, same, small))
            (λ s r z role_ is own_is number. elim (cases_eq s slot) [
              | inl here ↦ let none_role = subst (λ (t : ℕ). planned_role members.roles (give_of change.gives t) t ≡ Some r) here role_ in absurd (let both = sym ready.idle ∙ none_role in cc)
              | inr other ↦ apart s z other (inl (ready.within s other (left_live s is), own_is)) (fresh_of s z (ready.within s other (left_live s is)) own_is) (number ∙ new_number csum)
            ]) role h
          where
            fresh_of : (s : ℕ) (z : Sb) → has_slot known s ≡ true → own_in members.own s ≡ Some z → is_fresh members.newest z ≡ true
            fresh_of s z is own_is =
                let k = ready.held.each s is in
                let same : k.sb ≡ z = (let both : Some k.sb ≡ Some z = sym k.own ∙ own_is in cc) in
                ap (is_fresh members.newest) (sym same) ∙ k.fresh

        -- and is suited
        new_fits : (csum : ℕ) → IsSuited N (scope.sizes.sectors slot) (record New { sb_csum = csum })
        new_fits csum =
            let k = emptied_held.each slot (left_wide slot slot_left) in
            let same : k.sb ≡ ready.sb = sym (own_new k.sb k.own) in
            subst (λ (z : Sb). IsSuited N (scope.sizes.sectors slot) (record (planned N (give_of change.gives slot) z) { sb_csum = csum })) same
            (new_suited scope Wide mid.lost members.newest members.own Emptied emptied_held N change.gives Left left_fit left_wide Own kept_left slot slot_left csum)

        not_rest : has_slot Rest slot ≡ false
        not_rest = none_of Rest slot (λ is. rest_apart slot is refl)

        slot_other : IsOther scope N l' slot d'
        slot_other =
            let o = held4.others slot ready.new.there not_rest in
            record {
              suited = λ sb m. ⊎_elim (λ was. o.suited sb was)
                  (λ new. let same : record New { sb_csum = new.0 } ≡ sb = (let both : Some (record New { sb_csum = new.0 }) ≡ Some sb = sym new.1 in cc) in
                  subst (IsSuited N (scope.sizes.sectors slot)) same (new_fits new.0)) (slot_read (Some sb) m);
              role = λ role found h m. ⊎_elim (λ was. o.role role found h was)
                  (λ new. ap (held_in N role slot) new.1 ∙ new_idle role new.0 h) (slot_read found m);
              spare = λ found kept m. absurd (both_ways gone kept);
            }

        shows_former : (s : ℕ) (a : Sb) → Shows scope Rest Own d' s a → (Shows scope Rest Own Former s a) ⊎ ((s ≡ slot) × (a.dev_number ≡ ready.sb.dev_number))
        shows_former s a (inl is) = inl (inl is)
        shows_former s a (inr (none, m)) = elim (cases_eq s slot) [
          | inl same ↦ of same (slot_read (Some a) (subst (λ (t : ℕ). MayRead scope d' t (Some a)) same m))
          | inr other ↦ inl (inr (none, to_put scope slot (mid.disk slot 8) d' s (Some a) other m))
        ]
          where
            of : s ≡ slot → MayRead scope Former slot (Some a) ⊎ IsStamped New (Some a) → (Shows scope Rest Own Former s a) ⊎ ((s ≡ slot) × (a.dev_number ≡ ready.sb.dev_number))
            of same (inl was) = inl (inr (none, subst (λ (t : ℕ). MayRead scope Former t (Some a)) (sym same) was))
            of same (inr (csum, new)) = inr (same, (let is : a ≡ record New { sb_csum = csum } = cc in ap (λ (z : Sb). z.dev_number) is ∙ new_number csum))

        not_that : (s : ℕ) (a : Sb) → s ≢ slot → Shows scope Rest Own Former s a → is_fresh N a ≡ true → a.dev_number ≢ ready.sb.dev_number
        not_that s a other is fresh number =
            let b = shows_mid s a is fresh in
            apart s b.0 other b.1 b.2 (b.3 ∙ number)

        -- what the slot is planned to have says the same as the newest
        new_like : (csum : ℕ) → IsNewestLike N (record New { sb_csum = csum })
        new_like csum =
            let k = emptied_held.each slot (left_wide slot slot_left) in
            let same : k.sb ≡ ready.sb = sym (own_new k.sb k.own) in
            subst (λ (z : Sb). IsNewestLike N (record (planned N (give_of change.gives slot) z) { sb_csum = csum })) same
            (stamped-like N csum (planned N (give_of change.gives slot) k.sb)
            (planned-like scope members.newest (own_in members.own slot) slot Emptied k held.sound held.table N (give_of change.gives slot) (omega (arith, left_fit.table)) left_fit.sound.room))

        first_like : (s : ℕ) (sb : Sb) → IsFirstAsNew scope N d' s sb → IsNewestLike N sb
        first_like s sb at = elim (cases_eq s slot) [
          | inl same ↦ of (slot_read (Some sb) (subst (λ (t : ℕ). MayRead scope d' t (Some sb)) same here)) same
          | inr other ↦ like s (to_put scope slot (mid.disk slot 8) d' s (Some sb) other here) at.there
        ]
          where
            here : MayRead scope d' s (Some sb)
            here = subst (MayRead scope d' s) at.is (at.may s (omega arith))

            like : (t : ℕ) → MayRead scope Former t (Some sb) → t < scope.sizes.slots → IsNewestLike N sb
            like t m there_ =
                taken-like scope known Gone members.newest members.own mid.disk heldG Rest rest_known level N change.gives fit Own kept_rest Former (rest_taking d' f) Taken l' whole4 some_taken taken_rest first4 more4 t sb there_ m at.events

            of : MayRead scope Former slot (Some sb) ⊎ IsStamped New (Some sb) → s ≡ slot → IsNewestLike N sb
            of (inl was) same = like slot was ready.new.there
            of (inr (csum, new)) same = subst (IsNewestLike N) (let is : record New { sb_csum = csum } ≡ sb = (let both = new in cc) in is) (new_like csum)

        gone_held : AreHeld scope Rest l' N Own d'
        gone_held = record {
          sound = held4.sound;
          table = held4.table;
          each = λ s is. back s (rest_apart s is) (held4.each s is);
          others = λ s there_ none. elim (cases_eq s slot) [
            | inl same ↦ subst (λ (t : ℕ). IsOther scope N l' t d') (sym same) slot_other
            | inr other ↦
                let o = held4.others s there_ none in
                record {
                  suited = λ sb m. o.suited sb (to_put scope slot (mid.disk slot 8) d' s (Some sb) other m);
                  role = λ role found h m. o.role role found h (to_put scope slot (mid.disk slot 8) d' s found other m);
                  spare = λ found kept m. o.spare found kept (to_put scope slot (mid.disk slot 8) d' s found other m);
                }
          ];
          top = (
            some.0,
            there some.0 some.1,
            λ found m. taken-level scope known Gone members.newest members.own mid.disk heldG Rest rest_known level N change.gives fit Own kept_rest Former (rest_taking d' f) Taken l' whole4 some_taken taken_rest first4 more4
                some.0 found (taken_is some.0 some.1 some.2) (to_put scope slot (mid.disk slot 8) d' some.0 found (apart_taken some.0 (taken_is some.0 some.1 some.2)) m),
          );
          first = first_like;
          apart = λ s t a b differ is is' fresh fresh'. ⊎_elim
              (λ was. ⊎_elim
              (λ was'. held4.apart s t a b differ was was' fresh fresh')
              (λ new'. λ number. not_that s a (λ same. differ (same ∙ sym new'.0)) was fresh (number ∙ new'.1))
              (shows_former t b is'))
              (λ new. ⊎_elim
              (λ was'. λ number. not_that t b (λ same. differ (new.0 ∙ sym same)) was' fresh' (sym number ∙ new.1))
              (λ new'. absurd (differ (new.0 ∙ sym new'.0)))
              (shows_former t b is'))
              (shows_former s a is);
        }
          where
            back : (s : ℕ) → s ≢ slot → IsKnown scope N (own_in Own s) s Former → IsKnown scope N (own_in Own s) s d'
            back s other k = record {
              sb = k.sb;
              own = k.own;
              reads = λ found m. k.reads found (to_put scope slot (mid.disk slot 8) d' s found other m);
              second = λ sector is_in. k.second sector (subst (λ (l : List Sector). IsIn l sector) (sym (put_ninth slot (mid.disk slot 8) d' s)) is_in);
              seen = k.seen;
              long = k.long;
              there = k.there;
              array = k.array;
              fresh = k.fresh;
              number = k.number;
              late = k.late;
              lies = k.lies;
              suited = k.suited;
            }

        gone-end : IsAt scope members change before live (λ s. s ≡ slot) 0 (record { newest = N; lost = l'; disk = d' })
        gone-end = record {
          known = Rest;
          named = mid.lost;
          gone = Gone;
          own = Own;
          held = gone_held;
          level = λ s found is none m. taken-level scope known Gone members.newest members.own mid.disk heldG Rest rest_known level N change.gives fit Own kept_rest Former (rest_taking d' f) Taken l' whole4 some_taken taken_rest first4 more4
              s found (taken_is s is none) (to_put scope slot (mid.disk slot 8) d' s found (apart_taken s (taken_is s is none)) m);
          exact = λ s sb found is none own_is m.
              let t = taken_is s is none in
              let l = taken_rest s t in
              let k = heldG.each s (rest_known s l) in
              let new = taken_read scope known Gone members.newest members.own mid.disk heldG Rest rest_known level N change.gives fit Own kept_rest Former (rest_taking d' f) Taken l' whole4 some_taken taken_rest first4 more4 s l found t
              (to_put scope slot (mid.disk slot 8) d' s found (apart_taken s t) m) in
              let last : planned N (give_of change.gives s) k.sb ≡ sb = (let both : Some (planned N (give_of change.gives s) k.sb) ≡ Some sb = sym (own_next s k.sb k.own) ∙ own_is in cc) in
              subst (λ (z : Sb). IsStamped z found) last new;
          are = rest_are;
          more = caught.more;
          named_gone = gone_more;
          unnamed = λ s is. elim (cases_eq s slot) [
            | inl same ↦ inr same
            | inr other ↦ inl (sym (with_other mid.lost slot s other) ∙ is)
          ];
          grown = more4;
          later = later;
          plan = (members.newest.dev_roles, refl);
          own_is = λ s sb is own_is. own_next s sb own_is;
          own_was = λ s is. let k = heldG.each s (rest_known s is) in (k.sb, k.own);
          events = omega (arith, fit.later);
        }

      pub added-end : IsAt scope members change before live (λ s. s ≡ slot) 0 (record { newest = N; lost = l'; disk = d' })
      added-end = ⊎_elim (λ gone. gone-end gone) (λ kept. kept-end kept) (by_bool (has_slot l' slot))
