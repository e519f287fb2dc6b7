-- The start of an update that makes a slot a spare, of the members before that slot is taken in among them.
use Rattle.std.proofs.Common.{◌≡◌, ◌≢◌, inl, inr, ℕ, zero, suc, ◌<◌, ◌==◌, Bool, true, false, not, ◌&&◌, List, [], ◌∷◌, set, length, get_or, Option, Some, None, refl, sym, ◌∙◌, subst, arith}
use Rattle.std.proofs.lemmas.Bool.{cases_lt}
use Rattle.std.proofs.lemmas.Bool.Decides.{nat_tests}
use Rattle.sb_read_laws.specs.raid_types_Sectors.{Sector}
use Rattle.sb_read_laws.specs.raid_types_Shapes.{has_slot}
use Rattle.sb_read_laws.specs.sb_codec_the_Sb.{Sb}
use Rattle.sb_read_laws.specs.sb_specs_the_Change.{Change}
use Rattle.sb_read_laws.specs.sb_specs_the_Members.{Members}
use Rattle.sb_read_laws.specs.sb_specs_Reading.{Scope}
use Rattle.sb_read_laws.specs.sb_specs_Update.{own_in}
use Rattle.sb_read_laws.specs.sb_specs_Outcome.{with_added}
use Rattle.sb_read_laws.specs.sb_specs_Held.{IsKnown, Shows, AreHeld}
use Rattle.sb_read_laws.specs.sb_specs_Stages.{AreLeft}
use Rattle.sb_read_laws.specs.sb_specs_Plans.{IsFitChange}
use Rattle.sb_read_laws.specs.sb_specs_Adding.{IsNewcomer, IsReadyToAdd, IsAdding}
use Rattle.sb_read_laws.proofs.sb_specs_SlotSets.{in-set_of, set_of-past, none_above}

abbrev Disk : Type 0
Disk = ℕ → ℕ → List Sector

abbrev Own : Type 0
Own = List (Option Sb)

at_set : (own : Own) (i : ℕ) (x : Option Sb) → i < length own → get_or (set own i x) i None ≡ x
at_set [] i x lt = absurd (omega (arith, lt))
at_set (y ∷ own) zero x lt = refl
at_set (y ∷ own) (suc i) x lt = at_set own i x (omega (arith, lt))

past_set : (own : Own) (i j : ℕ) (x : Option Sb) → j ≢ i → get_or (set own i x) j None ≡ get_or own j None
past_set [] i j x apart = refl
past_set (y ∷ own) zero zero x apart = absurd (apart refl)
past_set (y ∷ own) zero (suc j) x apart = refl
past_set (y ∷ own) (suc i) zero x apart = refl
past_set (y ∷ own) (suc i) (suc j) x apart = past_set own i j x (omega (arith, apart))

-- what is held is said of the known slots' superblocks alone
shows-same : (scope : Scope) (known : ℕ) (own own' : Own) (d : Disk) → ((s : ℕ) → has_slot known s ≡ true → own_in own' s ≡ own_in own s) → (s : ℕ) (a : Sb)
    → Shows scope known own' d s a → Shows scope known own d s a
shows-same scope known own own' d same s a (inl (is, own_is)) = inl (is, sym (same s is) ∙ own_is)
shows-same scope known own own' d same s a (inr m) = inr m

held-same : (scope : Scope) (known lost : ℕ) (newest : Sb) (own own' : Own) (d : Disk) → ((s : ℕ) → has_slot known s ≡ true → own_in own' s ≡ own_in own s)
    → AreHeld scope known lost newest own d → AreHeld scope known lost newest own' d
held-same scope known lost newest own own' d same held = record {
  sound = held.sound;
  table = held.table;
  each = λ s is. subst (λ (h : Option Sb). IsKnown scope newest h s d) (sym (same s is)) (held.each s is);
  others = held.others;
  top = held.top;
  first = held.first;
  apart = λ s t a b differ p q fresh fresh'. held.apart s t a b differ (shows-same scope known own own' d same s a p) (shows-same scope known own own' d same t b q) fresh fresh';
}

newcomer-same : (scope : Scope) (known : ℕ) (newest : Sb) (own own' : Own) (slot : ℕ) (sb : Sb) (d : Disk) → ((s : ℕ) → has_slot known s ≡ true → own_in own' s ≡ own_in own s)
    → IsNewcomer scope known newest own slot sb d → IsNewcomer scope known newest own' slot sb d
newcomer-same scope known newest own own' slot sb d same new = record {
  unknown = new.unknown;
  events = new.events;
  second = new.second;
  seen = new.seen;
  long = new.long;
  there = new.there;
  array = new.array;
  number = new.number;
  late = new.late;
  lies = new.lies;
  suited = new.suited;
  apart = λ s a differ p fresh. new.apart s a differ (shows-same scope known own own' d same s a p) fresh;
}

not_here : (b : Bool) (t : ℕ) → (b && not (t == t)) ≡ false
not_here true t = grind (arith, nat_tests)
not_here false t = refl

elsewhere : (b : Bool) (t s : ℕ) → s ≢ t → (b && not (t == s)) ≡ b
elsewhere true t s apart = grind (arith, nat_tests)
elsewhere false t s apart = refl

pub adding-ready : (scope : Scope) (known left : ℕ) (members : Members) (change : Change) (live slot : ℕ) (sb : Sb) (d : Disk)
    → IsAdding scope known left members change live slot sb d → IsReadyToAdd scope known left members.lost (with_added members change.added) change live slot d
adding-ready scope known left members change live slot sb d a =
    subst (λ (x : Option (ℕ × Sb)). IsReadyToAdd scope known left members.lost (with_added members x) change live slot d) (sym a.added) (record {
      held = held-same scope known members.lost members.newest members.own (with_added members (Some (slot, sb))).own d same a.held;
      sb = record sb { events = members.newest.events };
      is = at_set members.own slot (Some (record sb { events = members.newest.events })) (let long = a.count in let lt = a.below in omega (arith, long, lt));
      new = newcomer-same scope known members.newest members.own (with_added members (Some (slot, sb))).own slot (record sb { events = members.newest.events }) d same a.new;
      is_live = a.is_live;
      found = in-set_of (λ s. has_slot members.lost s && not (slot == s)) slot a.below ∙ not_here (has_slot members.lost slot) slot;
      same = λ s apart. elim (cases_lt s 32) [
        | inl below ↦ in-set_of (λ t. has_slot members.lost t && not (slot == t)) s below ∙ elsewhere (has_slot members.lost s) slot s apart
        | inr past ↦ set_of-past 32 (λ t. has_slot members.lost t && not (slot == t)) s past ∙ sym (none_above members.lost s a.few past)
      ];
      are = subst (λ (x : Option (ℕ × Sb)). AreLeft live (with_added members x).lost left) a.added a.are;
      within = a.within;
      exact = λ s own at apart is own_is m. a.exact s own at apart is (sym (past_set members.own slot s (Some (record sb { events = members.newest.events })) apart) ∙ own_is) m;
      idle = a.idle;
      fits = subst (λ (x : Option (ℕ × Sb)). IsFitChange known (with_added members x).lost left (with_added members x) change) a.added a.fits;
      fields = a.fields;
    })
  where
    same : (s : ℕ) → has_slot known s ≡ true → own_in (with_added members (Some (slot, sb))).own s ≡ own_in members.own s
    same s is = past_set members.own slot s (Some (record sb { events = members.newest.events })) (λ here. absurd (let both = sym (subst (λ (t : ℕ). has_slot known t ≡ true) here is) ∙ a.new.unknown in cc))
