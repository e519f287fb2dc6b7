-- A whole update in rounds, by what images read.
use Rattle.std.proofs.Common.{◌≡◌, ◌⊎◌, inl, inr, ⊎_elim, ℕ, zero, suc, ◌+◌, ◌^◌, ◌<◌, ◌≤◌, true, false, not, ◌&&◌, nat_lt, List, replicate, Option, Some, refl, sym, ◌∙◌, ap, subst, le_refl, arith}
use Rattle.std.proofs.lemmas.Bool.Decides.{nat_tests}
use Rattle.sb_specs.specs.raid_types_Sectors.{Sector}
use Rattle.sb_specs.specs.raid_types_Shapes.{has_slot}
use Rattle.sb_specs.specs.sb_codec_the_Sb.{Sb}
use Rattle.sb_specs.specs.bank_Tape.{Contents}
use Rattle.sb_specs.specs.declared.change.Give.{Give}
use Rattle.sb_specs.specs.declared.change.Give.TheVariants.{Same}
use Rattle.sb_specs.specs.declared.change.Change.{Change}
use Rattle.sb_specs.specs.declared.members.Members.{Members}
use Rattle.sb_specs.specs.Reading.{Scope}
use Rattle.sb_specs.specs.Update.{planned, give_of, own_in, is_behind, is_recovery}
use Rattle.sb_specs.specs.Writing.{IsPlanned}
use Rattle.sb_specs.specs.Updating.{planned_newest, IsLater}
use Rattle.sb_specs.specs.Held.{AreDrawn, IsStamped, AreHeld, AreLevel}
use Rattle.sb_specs.specs.Stages.{AreLeft, IsCatchingUp, IsTaking, AreTaken, IsFitPlan, AreKept, AreFirstKept}
use Rattle.sb_specs.specs.Plans.{IsFitChange}
use Rattle.sb_specs.specs.Rounds.{Round, naming, first_newest, IsRewriting, IsRewritten, IsNaming, AreNamings, IsInNaming, IsCaughtUpTo, IsFirstRewriting, IsFirstRewritten, IsInFirst, IsPastFirst, members_at, IsReadInUpdate, IsReady}
use Rattle.sb_specs.proofs.ReadLists.{by_bool}
use Rattle.sb_specs.proofs.Exact.{all_same}
use Rattle.sb_read_laws.proofs.PlanFits.{plan-fits, length-any}
use Rattle.sb_specs.proofs.UpdateReads.{some-or-all}
use Rattle.sb_read_laws.proofs.StageReads.{caught_of, caught-held, catching-reads, taking-reads, taken-held, taken-level, taken_read}
use Rattle.sb_read_laws.proofs.RoundReads.{IsAt, left_set, left-are, and_first, and_second, planned_list, planned-in, kept-of, fit-of, naming-reads, naming-end, all-named, wider}

abbrev Disk : Type 0
Disk = ℕ → ℕ → List Sector

-- fewer slots are asked for
pub more-held : (scope : Scope) (known lost lost' : ℕ) (newest : Sb) (own : List (Option Sb)) (d : Disk) → ((s : ℕ) → has_slot lost s ≡ true → has_slot lost' s ≡ true)
    → AreHeld scope known lost newest own d → AreHeld scope known lost' newest own d
more-held scope known lost lost' newest own d more held = record {
  sound = held.sound;
  table = held.table;
  each = held.each;
  others = λ s there none.
      let o = held.others s there none in
      record { suited = o.suited; role = o.role; spare = λ found left m. o.spare found (unlost s left) m };
  top = held.top;
  first = held.first;
  apart = held.apart;
}
  where
    unlost : (s : ℕ) → has_slot lost' s ≡ false → has_slot lost s ≡ false
    unlost s none = ⊎_elim (λ is. absurd (let both = sym (more s is) ∙ none in cc)) (λ is. is) (by_bool (has_slot lost s))

equal : (a b : ℕ) → nat_lt a b ≡ false → a ≤ b → a ≡ b
equal a b h le = grind (arith, nat_tests)

module _ (scope : Scope) (members : Members) (change : Change) (before live known left0 : ℕ) (d : Disk) (ready : IsReady scope known left0 members change live d) where
  there : (s : ℕ) → has_slot live s ≡ true → s < scope.sizes.slots
  there s is = (ready.held.each s (ready.within s is)).there

  first_live : (s : ℕ) → has_slot left0 s ≡ true → has_slot live s ≡ true
  first_live s is = and_first (has_slot live s) (has_slot members.lost s) (sym (ready.are s) ∙ is)

  first_within : (s : ℕ) → has_slot left0 s ≡ true → has_slot known s ≡ true
  first_within s is = ready.within s (first_live s is)

  -- slots are brought to the newest count
  catching : (e : Disk) → IsRewriting members.newest (replicate 32 Same) members.own live members.lost d e → IsCatchingUp members.newest members.own left0 d e
  catching e stage = record {
    values = λ s v held. ⊎_elim (λ was. inl was)
        (λ w. inr (ready.are s ∙ (λ i. w.0 i && not (w.1 i)), subst (λ (g : Give). IsPlanned members.newest g (own_in members.own s) v) (all_same 32 s) w.2)) (stage.values s v held);
    ninth = stage.ninth;
  }

  pub before-reads : (last : ℕ) (e : Disk) (c : Contents) → IsRewriting members.newest (replicate 32 Same) members.own live members.lost d e → AreDrawn e c
      → IsReadInUpdate scope known members change before live last c
  before-reads last e c stage drawn = inl (record {
    lost = members.lost;
    more = λ s is. is;
    reads = catching-reads scope known members.lost members.newest members.own d ready.held left0 first_within e c (catching e stage) drawn;
  })

  module _ (mid : Round) (caught : IsCaughtUpTo members.newest members.own live members.lost d mid) where
    held : AreHeld scope known mid.lost members.newest members.own mid.disk
    held = more-held scope known members.lost mid.lost members.newest members.own mid.disk caught.more
        (caught-held scope known members.lost members.newest members.own d ready.held left0 first_within mid.disk (catching mid.disk caught.stage))

    are : AreLeft live mid.lost (left_set scope.sizes.slots live mid.lost)
    are = left-are scope.sizes.slots live mid.lost there

    left_live : (s : ℕ) → has_slot (left_set scope.sizes.slots live mid.lost) s ≡ true → has_slot live s ≡ true
    left_live s is = and_first (has_slot live s) (has_slot mid.lost s) (sym (are s) ∙ is)

    left_kept : (s : ℕ) → has_slot (left_set scope.sizes.slots live mid.lost) s ≡ true → has_slot mid.lost s ≡ false
    left_kept s is = and_second (has_slot live s) (has_slot mid.lost s) (sym (are s) ∙ is)

    sub : (s : ℕ) → has_slot (left_set scope.sizes.slots live mid.lost) s ≡ true → has_slot known s ≡ true
    sub s is = ready.within s (left_live s is)

    unlost : (s : ℕ) → has_slot mid.lost s ≡ false → has_slot members.lost s ≡ false
    unlost s none = ⊎_elim (λ is. absurd (let both = sym (caught.more s is) ∙ none in cc)) (λ is. is) (by_bool (has_slot members.lost s))

    left_first : (s : ℕ) → has_slot (left_set scope.sizes.slots live mid.lost) s ≡ true → has_slot left0 s ≡ true
    left_first s is = ready.are s ∙ (λ i. left_live s is i && not (unlost s (left_kept s is) i))

    of_first : (s : ℕ) → has_slot mid.lost s ≡ false → has_slot left0 s ≡ true → has_slot (left_set scope.sizes.slots live mid.lost) s ≡ true
    of_first s none is = are s ∙ (λ i. first_live s is i && not (none i))

    level : AreLevel scope (left_set scope.sizes.slots live mid.lost) members.newest mid.disk
    level s found is m =
        let k = ready.held.each s (sub s is) in
        ⊎_elim
        (λ was.
        let x = ready.exact s k.sb found (left_first s is) k.own (record { at = m.at; eighth = was.1; ninth = caught.stage.ninth s (m.at 9) m.ninth; is = m.is }) in
        (record k.sb { sb_csum = x.0 }, x.1, equal k.sb.events members.newest.events (sym (ap (is_behind members.newest) k.own) ∙ was.0) k.suited.events))
        (λ plan.
        let r = caught_of scope known members.lost members.newest members.own d ready.held left0 first_within s (sub s is) m.at plan (caught.stage.ninth s (m.at 9) m.ninth) in
        (record r.0 { sb_csum = r.1.0 }, sym m.is ∙ r.1.1, r.3))
        (caught.level s (left_live s is) (left_kept s is) (m.at 8) m.eighth)

    fits : IsFitChange known mid.lost (left_set scope.sizes.slots live mid.lost) members change
    fits = record {
      role = λ s role none is. of_first s none (ready.fits.role s role (unlost s none) is);
      below = λ s role none is. ready.fits.below s role (unlost s none) is;
      spare = λ s none is. of_first s none (ready.fits.spare s (unlost s none) is);
      one_holder = λ s t role none none' is is'. ready.fits.one_holder s t role (unlost s none) (unlost t none') is is';
      fields = ready.fits.fields;
      size = ready.fits.size;
      written = λ s is none. of_first s none (ready.fits.written s is (unlost s none));
      devices = λ s sb is own_is. ready.fits.devices s sb (left_first s is) own_is;
      one = λ s t is is' r r'. ready.fits.one s t (left_first s is) (left_first t is') r r';
    }

    fit : IsFitPlan scope mid.lost members.newest (first_newest members change before mid.lost members.newest) change.gives members.own (left_set scope.sizes.slots live mid.lost) mid.disk
    fit = plan-fits scope known mid.lost (left_set scope.sizes.slots live mid.lost) before members change mid.disk held sub fits

    own_next : (s : ℕ) (sb : Sb) → has_slot (left_set scope.sizes.slots live mid.lost) s ≡ true → own_in members.own s ≡ Some sb
        → own_in (planned_list (first_newest members change before mid.lost members.newest) change.gives members.own) s ≡ Some (planned (first_newest members change before mid.lost members.newest) (give_of change.gives s) sb)
    own_next s sb is own_is = planned-in (first_newest members change before mid.lost members.newest) change.gives members.own s sb own_is

    kept : AreKept (first_newest members change before mid.lost members.newest) change.gives members.own (left_set scope.sizes.slots live mid.lost)
        (planned_list (first_newest members change before mid.lost members.newest) change.gives members.own)
    kept = kept-of (first_newest members change before mid.lost members.newest) change.gives members.own (planned_list (first_newest members change before mid.lost members.newest) change.gives members.own)
        (left_set scope.sizes.slots live mid.lost) own_next

    taking : (e : Disk) → IsFirstRewriting (first_newest members change before mid.lost members.newest) change.gives members.own live mid.lost mid.disk e
        → IsTaking (first_newest members change before mid.lost members.newest) change.gives members.own (left_set scope.sizes.slots live mid.lost) mid.disk e
    taking e f = record {
      values = λ s v held_. ⊎_elim (λ was. inl was) (λ w. inr (are s ∙ (λ i. w.0 i && not (w.1 i)), w.2)) (f.stage.values s v held_);
      order = ⊎_elim (λ others. inl others) (λ all. inr (λ s v is r held_. all s v (left_live s is) (left_kept s is) r held_)) f.order;
      ninth = f.stage.ninth;
    }

    later : IsLater (planned_newest change.shared members.newest) (first_newest members change before mid.lost members.newest)
    later = record { events = le_refl _; same = refl }

    pub first-reads : (e : Disk) (c : Contents) → IsFirstRewriting (first_newest members change before mid.lost members.newest) change.gives members.own live mid.lost mid.disk e → AreDrawn e c
        → IsReadInUpdate scope known members change before live mid.lost c
    first-reads e c f drawn = ⊎_elim
        (λ r. inl (record { lost = mid.lost; more = caught.more; reads = r }))
        (λ r. inr (record {
          newest = first_newest members change before mid.lost members.newest;
          named = mid.lost;
          lost = mid.lost;
          left = left_set scope.sizes.slots live mid.lost;
          own = planned_list (first_newest members change before mid.lost members.newest) change.gives members.own;
          are = are;
          more = caught.more;
          within = λ s is. is;
          later = later;
          plan = (members.newest.dev_roles, refl);
          table = length-any members change before mid.lost members.newest.dev_roles ∙ ready.held.table;
          kept = kept;
          reads = r;
        }))
        (taking-reads scope known mid.lost members.newest members.own mid.disk held (left_set scope.sizes.slots live mid.lost) sub level (first_newest members change before mid.lost members.newest) change.gives fit
        (planned_list (first_newest members change before mid.lost members.newest) change.gives members.own) kept e c (taking e f) drawn)

    module _ (l' : ℕ) (d' : Disk) (written : IsRewritten (first_newest members change before mid.lost members.newest) change.gives members.own live mid.lost l' mid.disk d')
        (stage : IsFirstRewriting (first_newest members change before mid.lost members.newest) change.gives members.own live mid.lost mid.disk d') (first : AreFirstKept change.gives mid.lost l')
        (some : (s : ℕ) × (has_slot live s ≡ true) × (has_slot l' s ≡ false)) where
      taken_are : AreLeft live l' (left_set scope.sizes.slots live l')
      taken_are = left-are scope.sizes.slots live l' there

      taken_live : (s : ℕ) → has_slot (left_set scope.sizes.slots live l') s ≡ true → has_slot live s ≡ true
      taken_live s is = and_first (has_slot live s) (has_slot l' s) (sym (taken_are s) ∙ is)

      taken_kept : (s : ℕ) → has_slot (left_set scope.sizes.slots live l') s ≡ true → has_slot l' s ≡ false
      taken_kept s is = and_second (has_slot live s) (has_slot l' s) (sym (taken_are s) ∙ is)

      unlost' : (s : ℕ) → has_slot l' s ≡ false → has_slot mid.lost s ≡ false
      unlost' s none = ⊎_elim (λ is. absurd (let both = sym (written.more s is) ∙ none in cc)) (λ is. is) (by_bool (has_slot mid.lost s))

      within_left : (s : ℕ) → has_slot (left_set scope.sizes.slots live l') s ≡ true → has_slot (left_set scope.sizes.slots live mid.lost) s ≡ true
      within_left s is = are s ∙ (λ i. taken_live s is i && not (unlost' s (taken_kept s is) i))

      whole : AreTaken (first_newest members change before mid.lost members.newest) change.gives members.own (left_set scope.sizes.slots live l') d'
      whole s v is held_ = written.whole s v (taken_live s is) (taken_kept s is) held_

      some_taken : (s : ℕ) × (has_slot (left_set scope.sizes.slots live l') s ≡ true)
      some_taken = (some.0, taken_are some.0 ∙ (λ i. some.1 i && not (some.2 i)))

      first_taken : (s : ℕ) → has_slot (left_set scope.sizes.slots live mid.lost) s ≡ true → is_recovery (give_of change.gives s) ≡ true → has_slot (left_set scope.sizes.slots live l') s ≡ true
      first_taken s is r = taken_are s ∙ (λ i. left_live s is i && not (not_gone i))
        where
          not_gone : has_slot l' s ≡ false
          not_gone = ⊎_elim (λ gone. absurd (let both = sym (first s r gone) ∙ left_kept s is in cc)) (λ none. none) (by_bool (has_slot l' s))

      pub first-end : IsAt scope members change before live (λ s. ⊥) 0 (record { newest = first_newest members change before mid.lost members.newest; lost = l'; disk = d' })
      first-end = record {
        known = left_set scope.sizes.slots live mid.lost;
        named = mid.lost;
        own = planned_list (first_newest members change before mid.lost members.newest) change.gives members.own;
        held = taken-held scope known mid.lost members.newest members.own mid.disk held (left_set scope.sizes.slots live mid.lost) sub level (first_newest members change before mid.lost members.newest) change.gives fit
            (planned_list (first_newest members change before mid.lost members.newest) change.gives members.own) kept d' (taking d' stage) (left_set scope.sizes.slots live l') l' whole some_taken within_left first_taken written.more;
        level = λ s found is none m. taken-level scope known mid.lost members.newest members.own mid.disk held (left_set scope.sizes.slots live mid.lost) sub level (first_newest members change before mid.lost members.newest) change.gives fit
            (planned_list (first_newest members change before mid.lost members.newest) change.gives members.own) kept d' (taking d' stage) (left_set scope.sizes.slots live l') l' whole some_taken within_left first_taken written.more
            s found (taken_are s ∙ (λ i. is i && not (none i))) m;
        exact = λ s sb found is none own_is m.
            let t : has_slot (left_set scope.sizes.slots live l') s ≡ true = taken_are s ∙ (λ i. is i && not (none i)) in
            let l = within_left s t in
            let k = held.each s (sub s l) in
            let new = taken_read scope known mid.lost members.newest members.own mid.disk held (left_set scope.sizes.slots live mid.lost) sub level (first_newest members change before mid.lost members.newest) change.gives fit
            (planned_list (first_newest members change before mid.lost members.newest) change.gives members.own) kept d' (taking d' stage) (left_set scope.sizes.slots live l') l' whole some_taken within_left first_taken written.more
            s l found t m in
            let last : planned (first_newest members change before mid.lost members.newest) (give_of change.gives s) k.sb ≡ sb
            = (let both : Some (planned (first_newest members change before mid.lost members.newest) (give_of change.gives s) k.sb) ≡ Some sb = sym (own_next s k.sb l k.own) ∙ own_is in cc) in
            subst (λ (z : Sb). IsStamped z found) last new;
        are = are;
        more = caught.more;
        gone = mid.lost;
        named_gone = λ s is. is;
        unnamed = λ s is. inl is;
        grown = written.more;
        later = later;
        plan = (members.newest.dev_roles, refl);
        own_is = own_next;
        own_was = λ s is. let k = ready.held.each s (sub s is) in (k.sb, k.own);
        events = omega (arith, fit.later);
      }

  -- ---- one round after the other

  -- no live slot is left, and each image reads so
  abbrev Dead : Round → Type 0
  Dead b = ((s : ℕ) → has_slot live s ≡ true → has_slot b.lost s ≡ false → ⊥) × ((c : Contents) → AreDrawn b.disk c → IsReadInUpdate scope known members change before live b.lost c)

  abbrev State : ℕ → Round → Type 0
  State n b = IsAt scope members change before live (λ s. ⊥) n b ⊎ Dead b

  some_left : (lost : ℕ) → ((s : ℕ) × (has_slot live s ≡ true) × (has_slot lost s ≡ false)) ⊎ ((s : ℕ) → has_slot live s ≡ true → has_slot lost s ≡ false → ⊥)
  some_left lost = ⊎_elim (λ found. inl (found.0, found.2.0, found.2.1)) (λ all. inr (λ s is none. all s (there s is) is none))
      (some-or-all scope.sizes.slots (λ s. has_slot live s ≡ true → has_slot lost s ≡ false → ⊥) (λ s. (has_slot live s ≡ true) × (has_slot lost s ≡ false)) (λ s h. ⊎_elim
      (λ is. ⊎_elim (λ gone. inl (λ is' none. absurd (let both = sym gone ∙ none in cc))) (λ none. inr (is, none)) (by_bool (has_slot lost s)))
      (λ not_live. inl (λ is' none. absurd (let both = sym is' ∙ not_live in cc))) (by_bool (has_slot live s))))

  -- what is read of fewer values
  fewer : (newest : Sb) (gives : List Give) (own : List (Option Sb)) (lost : ℕ) (a e : Disk) (c : Contents) → ((s : ℕ) → has_slot live s ≡ true → has_slot lost s ≡ false → ⊥)
      → IsRewriting newest gives own live lost a e → AreDrawn e c → AreDrawn a c
  fewer newest gives own lost a e c none stage drawn s =
      (⊎_elim (λ was. was) (λ w. absurd (none s w.0 w.1)) (stage.values s (c s 8) (drawn s).0), stage.ninth s (c s 9) (drawn s).1)

  first-state : (mid first : Round) → IsCaughtUpTo members.newest members.own live members.lost d mid → IsFirstRewritten members change before live mid first → State 0 first
  first-state mid first caught over =
      let eq : first.newest ≡ first_newest members change before mid.lost members.newest = over.newest ∙ ap (first_newest members change before mid.lost) caught.newest in
      let written = subst (λ (n : Sb). IsRewritten n change.gives members.own live mid.lost first.lost mid.disk first.disk) eq over.written in
      let stage = subst (λ (n : Sb). IsFirstRewriting n change.gives members.own live mid.lost mid.disk first.disk) eq over.stage in
      let same : record { newest = first_newest members change before mid.lost members.newest; lost = first.lost; disk = first.disk } ≡ first = (λ i. record { newest = sym eq i; lost = first.lost; disk = first.disk }) in
      ⊎_elim
      (λ some. inl (subst (IsAt scope members change before live (λ s. ⊥) 0) same (first-end mid caught first.lost first.disk written stage over.kept some)))
      (λ none. inr (none, λ c drawn. wider scope known members change before live mid.lost first.lost c over.written.more (first-reads mid caught first.disk c stage drawn)))
      (some_left first.lost)

  naming-state : (n : ℕ) (a b : Round) → members.newest.events + 2 + n < 2 ^ 62 → State n a → IsNaming members change before live a b → State (suc n) b
  naming-state n a b small (inl at) next =
      let written = subst (λ (m : Sb). IsRewritten m change.gives members.own live a.lost b.lost a.disk b.disk) next.newest next.written in
      let same : record { newest = naming members change before a.lost a.newest; lost = b.lost; disk = b.disk } ≡ b = (λ i. record { newest = sym next.newest i; lost = b.lost; disk = b.disk }) in
      ⊎_elim
      (λ some. inl (subst (IsAt scope members change before live (λ s. ⊥) (suc n)) same (naming-end scope members change before live known left0 (λ s. ⊥) (fit-of scope known left0 members change live d ready) n a at small b.lost b.disk written some)))
      (λ none. inr (
        none,
        λ c drawn. wider scope known members change before live a.lost b.lost c next.written.more (inr (all-named scope members change before live a.lost c
            (naming-reads scope members change before live known left0 (λ s. ⊥) (fit-of scope known left0 members change live d ready) n a at small b.disk c written.stage drawn))),
      ))
      (some_left b.lost)
  naming-state n a b small (inr dead) next = inr (
    (λ s is none. dead.0 s is (unlost s none)),
    (λ c drawn. wider scope known members change before live a.lost b.lost c next.written.more (dead.1 c (fewer b.newest change.gives members.own a.lost a.disk b.disk c dead.0 next.written.stage drawn))),
  )
    where
      unlost : (s : ℕ) → has_slot b.lost s ≡ false → has_slot a.lost s ≡ false
      unlost s none = ⊎_elim (λ is. absurd (let both = sym (next.written.more s is) ∙ none in cc)) (λ is. is) (by_bool (has_slot a.lost s))

  namings-state : (n : ℕ) (first a b : Round) → members.newest.events + 1 + n < 2 ^ 62 → State 0 a → AreNamings (members_at members first) change before live n a b → State n b
  unfolding AreNamings
  namings-state zero first a b small state same = subst (State 0) same state
  namings-state (suc n) first a b small state (mid, over, next) =
      naming-state n mid b (omega (arith, small)) (namings-state n first a mid (omega (arith, small)) state over) (record { newest = next.newest; written = next.written })

  pub rounds-read : (first : Round) (e : Disk) (c : Contents) → IsPastFirst members change before live d first → (at : IsInNaming (members_at members first) change before live first e)
      → members.newest.events + 2 + at.rounds < 2 ^ 62 → AreDrawn e c → IsReadInUpdate scope known members change before live at.start.lost c
  rounds-read first e c past at small drawn = ⊎_elim
      (λ state. inr (all-named scope members change before live at.start.lost c
      (naming-reads scope members change before live known left0 (λ s. ⊥) (fit-of scope known left0 members change live d ready) at.rounds at.start state small e c at.stage drawn)))
      (λ dead. dead.1 c (fewer (naming members change before at.start.lost at.start.newest) change.gives members.own at.start.lost at.start.disk e c dead.0 at.stage drawn))
      (namings-state at.rounds first first at.start (omega (arith, small)) (first-state past.mid first past.caught past.written) at.over)

  pub rounds-end : (first last : Round) (n : ℕ) → IsPastFirst members change before live d first → AreNamings (members_at members first) change before live n first last → members.newest.events + 1 + n < 2 ^ 62
      → (s : ℕ) × (has_slot live s ≡ true) × (has_slot last.lost s ≡ false) → IsAt scope members change before live (λ s. ⊥) n last
  rounds-end first last n past over small some = ⊎_elim (λ state. state) (λ dead. absurd (dead.0 some.0 some.1 some.2))
      (namings-state n first first last small (first-state past.mid first past.caught past.written) over)

  pub in-first-reads : (e : Disk) (c : Contents) (at : IsInFirst members change before live d e) → AreDrawn e c → IsReadInUpdate scope known members change before live at.mid.lost c
  in-first-reads e c at drawn = first-reads at.mid at.caught e c
      (subst (λ (n : Sb). IsFirstRewriting (first_newest members change before at.mid.lost n) change.gives members.own live at.mid.lost at.mid.disk e) at.caught.newest at.stage) drawn
