-- The rounds of an update, by what images read: each reads as before it, or as planned by one of its rounds.
use Rattle.std.proofs.Common.{◌≡◌, ◌⊎◌, inl, inr, ⊎_elim, ℕ, suc, ◌+◌, ◌-◌, ◌^◌, ◌<◌, ◌≤◌, min, Bool, true, false, not, ◌&&◌, List, [], length, replicate, Option, Some, None, option_map, refl, sym, ◌∙◌, ap, subst, arith}
use Rattle.std.specs.Prelude.{find}
use Rattle.std.proofs.lemmas.Bool.{cases_lt}
use Rattle.std.proofs.lemmas.List.{get_or_past}
use Rattle.sb_specs.specs.raid_types_Sectors.{Sector}
use Rattle.sb_specs.specs.raid_types_Shapes.{has_slot}
use Rattle.sb_specs.specs.raid_types_Search.{tabulate}
use Rattle.sb_specs.proofs.raid_types_Tabulated.{get_or-tabulate}
use Rattle.sb_specs.specs.sb_codec_the_Sb.{Sb}
use Rattle.sb_specs.specs.bank_Tape.{Contents}
use Rattle.sb_specs.specs.declared.change.Give.{Give}
use Rattle.sb_specs.specs.declared.change.Give.TheVariants.{Same}
use Rattle.sb_specs.specs.declared.change.Change.{Change}
use Rattle.sb_specs.specs.declared.members.Members.{Members}
use Rattle.sb_specs.specs.Reading.{Scope, role_count}
use Rattle.sb_specs.specs.Verdict.{judged_fields}
use Rattle.sb_specs.specs.Update.{planned, give_of, own_in, is_recovery}
use Rattle.sb_specs.specs.Writing.{IsFirstSector, IsPlanned}
use Rattle.sb_specs.specs.Updating.{planned_newest, IsLater, AreNamed}
use Rattle.sb_specs.specs.Reads.{IsReadAs}
use Rattle.sb_specs.specs.Held.{AreDrawn, MayRead, IsStamped, AreHeld, AreLevel, said_by}
use Rattle.sb_specs.specs.Stages.{AreLeft, IsTaking, AreTaken, IsFitPlan, AreKept}
use Rattle.sb_specs.specs.Plans.{KeepsRecovery, IsFitChange}
use Rattle.sb_specs.specs.Rounds.{Round, naming, IsRewriting, IsRewritten, IsReadAsPlanned, IsReadInUpdate, IsReady}
use Rattle.sb_specs.specs.Crash.{IsWithin}
use Rattle.sb_specs.specs.Adding.{IsReadAsPlannedBut}
use Rattle.sb_specs.proofs.ReadLists.{by_bool}
use Rattle.sb_specs.proofs.Exact.{all_same}
use Rattle.sb_specs.specs.Outcome.{set_of}
use Rattle.sb_specs.proofs.SlotSets.{set_of-below, set_of-past}
use Rattle.sb_specs.proofs.PlannedSb.{planned-of}
use Rattle.sb_read_laws.proofs.PlannedAgain.{planned-again}
use Rattle.sb_read_laws.proofs.PlanFits.{IsNext, length-any, next-fits}
use Rattle.sb_read_laws.proofs.StageReads.{taking-reads, taken-held, taken-level, taken_read}

abbrev Disk : Type 0
Disk = ℕ → ℕ → List Sector

-- ---- sets

pub and_first : (a b : Bool) → (a && not b) ≡ true → a ≡ true
and_first true b e = refl
and_first false b e = e

pub and_second : (a b : Bool) → (a && not b) ≡ true → b ≡ false
and_second true true e = absurd (cc)
and_second true false e = refl
and_second false b e = absurd (cc)

-- a set for the live slots that weren't lost, where each is one of the bank's
pub left_set : ℕ → ℕ → ℕ → ℕ
left_set n live lost = set_of n (λ s. has_slot live s && not (has_slot lost s))

none_live : (b c : Bool) → (b ≡ true → ⊥) → (b && not c) ≡ false
none_live true c no_way = absurd (no_way refl)
none_live false c no_way = refl

not_both : (s n : ℕ) → s < n → n ≤ s → ⊥
not_both s n h h' = absurd (omega (arith, h, h'))

pub left-are : (n live lost : ℕ) → ((s : ℕ) → has_slot live s ≡ true → s < n) → AreLeft live lost (left_set n live lost)
unfolding left_set
left-are n live lost there s = elim (cases_lt s n) [
  | inl below ↦ set_of-below n (λ t. has_slot live t && not (has_slot lost t)) s below
  | inr past ↦ set_of-past n (λ t. has_slot live t && not (has_slot lost t)) s past ∙ sym (none_live (has_slot live s) (has_slot lost s) (λ is. not_both s n (there s is) past))
]

-- ---- the planned superblocks of all slots

pub planned_list : Sb → List Give → List (Option Sb) → List (Option Sb)
planned_list newest gives own = tabulate (length own) (λ s. option_map (planned newest (give_of gives s)) (own_in own s))

pub planned-in : (newest : Sb) (gives : List Give) (own : List (Option Sb)) (s : ℕ) (sb : Sb) → own_in own s ≡ Some sb
    → own_in (planned_list newest gives own) s ≡ Some (planned newest (give_of gives s) sb)
unfolding planned_list
planned-in newest gives own s sb is = elim (cases_lt s (length own)) [
  | inl below ↦ get_or-tabulate (length own) (λ s. option_map (planned newest (give_of gives s)) (own_in own s)) s None below ∙ ap (option_map (planned newest (give_of gives s))) is
  | inr past ↦ absurd (let none : None ≡ Some sb = sym (get_or_past own s None past) ∙ is in cc)
]

-- ---- the state between two rounds

-- the named slots are gone, and of others only such ones
pub record IsAt (scope : Scope) (members : Members) (change : Change) (before live : ℕ) (Unnamed : ℕ → Type 0) (n : ℕ) (b : Round) : Type 0 where
  pub known : ℕ
  pub named : ℕ
  pub gone : ℕ
  pub own : List (Option Sb)
  pub held : AreHeld scope known b.lost b.newest own b.disk
  pub level : (s : ℕ) (found : Option Sb) → has_slot live s ≡ true → has_slot b.lost s ≡ false → MayRead scope b.disk s found → (sb : Sb) × (found ≡ Some sb) × (sb.events ≡ b.newest.events)
  pub exact : (s : ℕ) (sb : Sb) (found : Option Sb) → has_slot live s ≡ true → has_slot b.lost s ≡ false → own_in own s ≡ Some sb → MayRead scope b.disk s found → IsStamped sb found
  pub are : AreLeft live gone known
  pub more : (s : ℕ) → has_slot members.lost s ≡ true → has_slot named s ≡ true
  pub named_gone : (s : ℕ) → has_slot named s ≡ true → has_slot gone s ≡ true
  pub unnamed : (s : ℕ) → has_slot gone s ≡ true → (has_slot named s ≡ true) ⊎ Unnamed s
  pub grown : (s : ℕ) → has_slot gone s ≡ true → has_slot b.lost s ≡ true
  pub later : IsLater (planned_newest change.shared members.newest) b.newest
  pub plan : AreNamed members change before named b.newest
  pub own_is : (s : ℕ) (sb : Sb) → has_slot known s ≡ true → own_in members.own s ≡ Some sb → own_in own s ≡ Some (planned b.newest (give_of change.gives s) sb)
  pub own_was : (s : ℕ) → has_slot known s ≡ true → (sb : Sb) × (own_in members.own s ≡ Some sb)
  pub events : b.newest.events ≡ members.newest.events + 1 + n

one_more : (n m : ℕ) → m < 2 ^ 62 → n ≡ min (m + 1) (2 ^ 64 - 1) → n ≡ m + 1
one_more n m h e = omega (arith, h, e)

-- what is kept is the planned one, with its own checksum
pub kept-of : (newest : Sb) (gives : List Give) (own own' : List (Option Sb)) (left : ℕ)
    → ((s : ℕ) (sb : Sb) → has_slot left s ≡ true → own_in own s ≡ Some sb → own_in own' s ≡ Some (planned newest (give_of gives s) sb)) → AreKept newest gives own left own'
kept-of newest gives own own' left are s sb is own_is = ((planned newest (give_of gives s) sb).sb_csum, are s sb is own_is)

-- what is asked of the change alone: where the live slots are, and that it fits
pub record IsFit (scope : Scope) (known left : ℕ) (members : Members) (change : Change) (live : ℕ) : Type 0 where
  pub there : (s : ℕ) → has_slot live s ≡ true → s < scope.sizes.slots
  pub are : AreLeft live members.lost left
  pub fits : IsFitChange known members.lost left members change
  pub fields : (events : ℕ) → events < 2 ^ 62 → find (λ (f : ℕ × Bool). f.1) (judged_fields (record (planned_newest change.shared members.newest) { events = events }) []) ≡ None

pub fit-of : (scope : Scope) (known left : ℕ) (members : Members) (change : Change) (live : ℕ) (d : Disk) → IsReady scope known left members change live d → IsFit scope known left members change live
fit-of scope known left members change live d ready =
    record { there = λ s is. (ready.held.each s (ready.within s is)).there; are = ready.are; fits = ready.fits; fields = ready.fields }

module _ (scope : Scope) (members : Members) (change : Change) (before live known left0 : ℕ) (Unnamed : ℕ → Type 0) (ready : IsFit scope known left0 members change live) where
  there : (s : ℕ) → has_slot live s ≡ true → s < scope.sizes.slots
  there = ready.there

  module _ (n : ℕ) (b : Round) (at : IsAt scope members change before live Unnamed n b) (small : members.newest.events + 2 + n < 2 ^ 62) where
    left : ℕ
    left = left_set scope.sizes.slots live b.lost

    pub are : AreLeft live b.lost (left_set scope.sizes.slots live b.lost)
    are = left-are scope.sizes.slots live b.lost there

    left_live : (s : ℕ) → has_slot (left_set scope.sizes.slots live b.lost) s ≡ true → has_slot live s ≡ true
    left_live s is = and_first (has_slot live s) (has_slot b.lost s) (sym (are s) ∙ is)

    left_kept : (s : ℕ) → has_slot (left_set scope.sizes.slots live b.lost) s ≡ true → has_slot b.lost s ≡ false
    left_kept s is = and_second (has_slot live s) (has_slot b.lost s) (sym (are s) ∙ is)

    unlost : (s : ℕ) (set : ℕ) → (has_slot set s ≡ true → has_slot b.lost s ≡ true) → has_slot b.lost s ≡ false → has_slot set s ≡ false
    unlost s set more none = ⊎_elim (λ is. absurd (let both = sym (more is) ∙ none in cc)) (λ is. is) (by_bool (has_slot set s))

    sub : (s : ℕ) → has_slot (left_set scope.sizes.slots live b.lost) s ≡ true → has_slot at.known s ≡ true
    sub s is = at.are s ∙ (λ i. left_live s is i && not (unlost s at.gone (at.grown s) (left_kept s is) i))

    first_lost : (s : ℕ) → has_slot b.lost s ≡ false → has_slot members.lost s ≡ false
    first_lost s none = unlost s members.lost (λ is. at.grown s (at.named_gone s (at.more s is))) none

    left_first : (s : ℕ) → has_slot (left_set scope.sizes.slots live b.lost) s ≡ true → has_slot left0 s ≡ true
    left_first s is = ready.are s ∙ (λ i. left_live s is i && not (first_lost s (left_kept s is) i))

    first_live : (s : ℕ) → has_slot left0 s ≡ true → has_slot live s ≡ true
    first_live s is = and_first (has_slot live s) (has_slot members.lost s) (sym (ready.are s) ∙ is)

    left_of_first : (s : ℕ) → has_slot b.lost s ≡ false → has_slot left0 s ≡ true → has_slot (left_set scope.sizes.slots live b.lost) s ≡ true
    left_of_first s none is = are s ∙ (λ i. first_live s is i && not (none i))

    fits : IsFitChange at.known b.lost (left_set scope.sizes.slots live b.lost) members change
    fits = record {
      role = λ s role none is. left_of_first s none (ready.fits.role s role (first_lost s none) is);
      below = λ s role none is. ready.fits.below s role (first_lost s none) is;
      spare = λ s none is. left_of_first s none (ready.fits.spare s (first_lost s none) is);
      one_holder = λ s t role none none' is is'. ready.fits.one_holder s t role (first_lost s none) (first_lost t none') is is';
      fields = ready.fits.fields;
      size = ready.fits.size;
      written = λ s is none. are s ∙ (λ i. and_first (has_slot live s) (has_slot at.gone s) (sym (at.are s) ∙ is) i && not (none i));
      devices = λ s sb is own_is. ready.fits.devices s sb (left_first s is) own_is;
      one = λ s t is is' r r'. ready.fits.one s t (left_first s is) (left_first t is') r r';
    }

    is_next : IsNext members change before b.lost b.newest (naming members change before b.lost b.newest)
    is_next =
        let later = one_more (naming members change before b.lost b.newest).events b.newest.events (omega (arith, at.events, small)) refl in
        record {
          roles = refl;
          room = refl;
          later = later;
          size = refl;
          fields = ap (λ (z : Sb). find (λ (f : ℕ × Bool). f.1) (judged_fields (record z { events = (naming members change before b.lost b.newest).events }) [])) at.later.same
              ∙ ready.fields (naming members change before b.lost b.newest).events (omega (arith, later, at.events, small));
          count = ap role_count at.later.same;
        }

    one_device : (t : ℕ) (sb z : Sb) → has_slot (left_set scope.sizes.slots live b.lost) t ≡ true → own_in members.own t ≡ Some sb → own_in at.own t ≡ Some z → z.dev_number ≡ sb.dev_number
    one_device t sb z is own_is own_is' =
        let same : z ≡ planned b.newest (give_of change.gives t) sb = (let both : Some z ≡ Some (planned b.newest (give_of change.gives t) sb) = sym own_is' ∙ at.own_is t sb (sub t is) own_is in cc) in
        ap (λ (y : Sb). y.dev_number) same ∙ (planned-of b.newest sb (give_of change.gives t)).number

    fit : IsFitPlan scope b.lost b.newest (naming members change before b.lost b.newest) (replicate 32 Same) at.own (left_set scope.sizes.slots live b.lost) b.disk
    fit = next-fits scope at.known b.lost (left_set scope.sizes.slots live b.lost) before members change b.newest (naming members change before b.lost b.newest) at.own b.disk at.held sub fits is_next one_device
        (replicate 32 Same) (λ s sb is own_is. subst (λ (g : Give). KeepsRecovery g sb) (sym (all_same 32 s)) tt)
        (λ s t is is' r r'. absurd (let none : false ≡ true = sym (ap is_recovery (all_same 32 s)) ∙ r in cc))

    level : AreLevel scope (left_set scope.sizes.slots live b.lost) b.newest b.disk
    level s found is m = at.level s found (left_live s is) (left_kept s is) m

    long : 128 ≤ length b.newest.dev_roles
    long = omega (arith, at.held.table)

    -- what is planned for a slot, of what it has
    again : (s : ℕ) (sb : Sb) → planned (naming members change before b.lost b.newest) (give_of (replicate 32 Same) s) (planned b.newest (give_of change.gives s) sb)
        ≡ planned (naming members change before b.lost b.newest) (give_of change.gives s) sb
    again s sb = ap (λ (g : Give). planned (naming members change before b.lost b.newest) g (planned b.newest (give_of change.gives s) sb)) (all_same 32 s)
        ∙ planned-again b.newest (naming members change before b.lost b.newest) sb (give_of change.gives s) long

    own_next : (s : ℕ) (sb : Sb) → own_in members.own s ≡ Some sb → own_in (planned_list (naming members change before b.lost b.newest) change.gives members.own) s
        ≡ Some (planned (naming members change before b.lost b.newest) (give_of change.gives s) sb)
    own_next s sb is = planned-in (naming members change before b.lost b.newest) change.gives members.own s sb is

    kept : AreKept (naming members change before b.lost b.newest) (replicate 32 Same) at.own (left_set scope.sizes.slots live b.lost) (planned_list (naming members change before b.lost b.newest) change.gives members.own)
    kept s z is own_is =
        let was = at.own_was s (sub s is) in
        let same : planned b.newest (give_of change.gives s) was.0 ≡ z = (let both : Some (planned b.newest (give_of change.gives s) was.0) ≡ Some z = sym (at.own_is s was.0 (sub s is) was.1) ∙ own_is in cc) in
        let p : Sb = planned (naming members change before b.lost b.newest) (give_of change.gives s) was.0 in
        let eq : p ≡ planned (naming members change before b.lost b.newest) (give_of (replicate 32 Same) s) z = sym (again s was.0) ∙ ap (planned (naming members change before b.lost b.newest) (give_of (replicate 32 Same) s)) same in
        (p.sb_csum, own_next s was.0 was.1 ∙ ap (λ (y : Sb). Some (record y { sb_csum = p.sb_csum })) eq)

    -- a round that writes the one planned superblock writes the other
    plan_again : (s : ℕ) (v : Sector) → has_slot (left_set scope.sizes.slots live b.lost) s ≡ true → IsPlanned (naming members change before b.lost b.newest) (give_of change.gives s) (own_in members.own s) v
        → IsPlanned (naming members change before b.lost b.newest) (give_of (replicate 32 Same) s) (own_in at.own s) v
    plan_again s v is plan =
        let was = at.own_was s (sub s is) in
        let first : IsFirstSector (planned (naming members change before b.lost b.newest) (give_of change.gives s) was.0) v =
        subst (λ (h : Option Sb). IsPlanned (naming members change before b.lost b.newest) (give_of change.gives s) h v) was.1 plan in
        subst (λ (h : Option Sb). IsPlanned (naming members change before b.lost b.newest) (give_of (replicate 32 Same) s) h v) (sym (at.own_is s was.0 (sub s is) was.1))
        (subst (λ (p : Sb). IsFirstSector p v) (sym (again s was.0)) first)

    stage_again : (e : Disk) → IsRewriting (naming members change before b.lost b.newest) change.gives members.own live b.lost b.disk e
        → IsTaking (naming members change before b.lost b.newest) (replicate 32 Same) at.own (left_set scope.sizes.slots live b.lost) b.disk e
    stage_again e stage = record {
      values = λ s v held. ⊎_elim (λ was. inl was)
          (λ w.
          let is : has_slot (left_set scope.sizes.slots live b.lost) s ≡ true = are s ∙ (λ i. w.0 i && not (w.1 i)) in
          inr (is, plan_again s v is w.2))
          (stage.values s v held);
      order = inr (λ s v is r held. absurd (let none : false ≡ true = sym (ap is_recovery (all_same 32 s)) ∙ r in cc));
      ninth = stage.ninth;
    }

    pub later_next : IsLater (planned_newest change.shared members.newest) (naming members change before b.lost b.newest)
    later_next = record {
      events = omega (arith, at.later.events, is_next.later);
      same = ap (λ (z : Sb). record z { events = (naming members change before b.lost b.newest).events; dev_roles = (naming members change before b.lost b.newest).dev_roles }) at.later.same;
    }

    pub more_next : (s : ℕ) → has_slot members.lost s ≡ true → has_slot b.lost s ≡ true
    more_next s is = at.grown s (at.named_gone s (at.more s is))

    pub table_next : length (naming members change before b.lost b.newest).dev_roles ≡ 384
    table_next = length-any members change before b.lost b.newest.dev_roles ∙ at.held.table

    pub kept_next : AreKept (naming members change before b.lost b.newest) change.gives members.own (left_set scope.sizes.slots live b.lost) (planned_list (naming members change before b.lost b.newest) change.gives members.own)
    kept_next = kept-of (naming members change before b.lost b.newest) change.gives members.own (planned_list (naming members change before b.lost b.newest) change.gives members.own) (left_set scope.sizes.slots live b.lost) (λ s sb is own_is. own_next s sb own_is)

    -- an image reads as the superblocks before the round say, or as it plans them
    pub naming-said : (e : Disk) (c : Contents) → IsRewriting (naming members change before b.lost b.newest) change.gives members.own live b.lost b.disk e → AreDrawn e c
        → IsReadAs scope b.lost (said_by scope at.known at.own b.newest) c
        ⊎ IsReadAs scope b.lost (said_by scope (left_set scope.sizes.slots live b.lost) (planned_list (naming members change before b.lost b.newest) change.gives members.own) (naming members change before b.lost b.newest)) c
    naming-said e c stage drawn =
        taking-reads scope at.known b.lost b.newest at.own b.disk at.held (left_set scope.sizes.slots live b.lost) sub level (naming members change before b.lost b.newest) (replicate 32 Same) fit
        (planned_list (naming members change before b.lost b.newest) change.gives members.own) kept e c (stage_again e stage) drawn

    pub naming-reads : (e : Disk) (c : Contents) → IsRewriting (naming members change before b.lost b.newest) change.gives members.own live b.lost b.disk e → AreDrawn e c
        → IsReadAsPlannedBut scope members change before live b.lost Unnamed c
    naming-reads e c stage drawn = ⊎_elim
        (λ r. record {
          newest = b.newest;
          named = at.named;
          lost = b.lost;
          left = at.known;
          own = at.own;
          are = at.are;
          more = at.more;
          gone = at.gone;
          named_gone = at.named_gone;
          unnamed = at.unnamed;
          grown = at.grown;
          within = λ s is. at.grown s (at.named_gone s is);
          later = at.later;
          plan = at.plan;
          table = at.held.table;
          kept = kept-of b.newest change.gives members.own at.own at.known at.own_is;
          reads = r;
        })
        (λ r. record {
          newest = naming members change before b.lost b.newest;
          named = b.lost;
          lost = b.lost;
          left = left_set scope.sizes.slots live b.lost;
          own = planned_list (naming members change before b.lost b.newest) change.gives members.own;
          are = are;
          more = more_next;
          gone = b.lost;
          named_gone = λ s is. is;
          unnamed = λ s is. inl is;
          grown = λ s is. is;
          within = λ s is. is;
          later = later_next;
          plan = (b.newest.dev_roles, refl);
          table = table_next;
          kept = kept_next;
          reads = r;
        })
        (naming-said e c stage drawn)

    module _ (l' : ℕ) (d' : Disk) (written : IsRewritten (naming members change before b.lost b.newest) change.gives members.own live b.lost l' b.disk d')
        (some : (s : ℕ) × (has_slot live s ≡ true) × (has_slot l' s ≡ false)) where
      taken_are : AreLeft live l' (left_set scope.sizes.slots live l')
      taken_are = left-are scope.sizes.slots live l' there

      taken_live : (s : ℕ) → has_slot (left_set scope.sizes.slots live l') s ≡ true → has_slot live s ≡ true
      taken_live s is = and_first (has_slot live s) (has_slot l' s) (sym (taken_are s) ∙ is)

      taken_kept : (s : ℕ) → has_slot (left_set scope.sizes.slots live l') s ≡ true → has_slot l' s ≡ false
      taken_kept s is = and_second (has_slot live s) (has_slot l' s) (sym (taken_are s) ∙ is)

      unlost' : (s : ℕ) → has_slot l' s ≡ false → has_slot b.lost s ≡ false
      unlost' s none = ⊎_elim (λ is. absurd (let both = sym (written.more s is) ∙ none in cc)) (λ is. is) (by_bool (has_slot b.lost s))

      within_left : (s : ℕ) → has_slot (left_set scope.sizes.slots live l') s ≡ true → has_slot (left_set scope.sizes.slots live b.lost) s ≡ true
      within_left s is = are s ∙ (λ i. taken_live s is i && not (unlost' s (taken_kept s is) i))

      whole : AreTaken (naming members change before b.lost b.newest) (replicate 32 Same) at.own (left_set scope.sizes.slots live l') d'
      whole s v is held = plan_again s v (within_left s is) (written.whole s v (taken_live s is) (taken_kept s is) held)

      some_taken : (s : ℕ) × (has_slot (left_set scope.sizes.slots live l') s ≡ true)
      some_taken = (some.0, taken_are some.0 ∙ (λ i. some.1 i && not (some.2 i)))

      no_first : (s : ℕ) → has_slot (left_set scope.sizes.slots live b.lost) s ≡ true → is_recovery (give_of (replicate 32 Same) s) ≡ true → has_slot (left_set scope.sizes.slots live l') s ≡ true
      no_first s is r = absurd (let none : false ≡ true = sym (ap is_recovery (all_same 32 s)) ∙ r in cc)

      pub naming-end : IsAt scope members change before live Unnamed (suc n) (record { newest = naming members change before b.lost b.newest; lost = l'; disk = d' })
      naming-end = record {
        known = left_set scope.sizes.slots live b.lost;
        named = b.lost;
        own = planned_list (naming members change before b.lost b.newest) change.gives members.own;
        held = taken-held scope at.known b.lost b.newest at.own b.disk at.held (left_set scope.sizes.slots live b.lost) sub level (naming members change before b.lost b.newest) (replicate 32 Same) fit
            (planned_list (naming members change before b.lost b.newest) change.gives members.own) kept d' (stage_again d' written.stage) (left_set scope.sizes.slots live l') l' whole some_taken within_left no_first written.more;
        level = λ s found is none m. taken-level scope at.known b.lost b.newest at.own b.disk at.held (left_set scope.sizes.slots live b.lost) sub level (naming members change before b.lost b.newest) (replicate 32 Same) fit
            (planned_list (naming members change before b.lost b.newest) change.gives members.own) kept d' (stage_again d' written.stage) (left_set scope.sizes.slots live l') l' whole some_taken within_left no_first written.more
            s found (taken_are s ∙ (λ i. is i && not (none i))) m;
        exact = λ s sb found is none own_is m.
            let t : has_slot (left_set scope.sizes.slots live l') s ≡ true = taken_are s ∙ (λ i. is i && not (none i)) in
            let l = within_left s t in
            let was = at.own_was s (sub s l) in
            let k = at.held.each s (sub s l) in
            let new = taken_read scope at.known b.lost b.newest at.own b.disk at.held (left_set scope.sizes.slots live b.lost) sub level (naming members change before b.lost b.newest) (replicate 32 Same) fit
            (planned_list (naming members change before b.lost b.newest) change.gives members.own) kept d' (stage_again d' written.stage) (left_set scope.sizes.slots live l') l' whole some_taken within_left no_first written.more
            s l found t m in
            let first : planned b.newest (give_of change.gives s) was.0 ≡ k.sb = (let both : Some (planned b.newest (give_of change.gives s) was.0) ≡ Some k.sb = sym (at.own_is s was.0 (sub s l) was.1) ∙ k.own in cc) in
            let last : planned (naming members change before b.lost b.newest) (give_of change.gives s) was.0 ≡ sb
            = (let both : Some (planned (naming members change before b.lost b.newest) (give_of change.gives s) was.0) ≡ Some sb = sym (own_next s was.0 was.1) ∙ own_is in cc) in
            let eq : planned (naming members change before b.lost b.newest) (give_of (replicate 32 Same) s) k.sb ≡ sb
            = ap (planned (naming members change before b.lost b.newest) (give_of (replicate 32 Same) s)) (sym first) ∙ again s was.0 ∙ last in
            subst (λ (z : Sb). IsStamped z found) eq new;
        are = are;
        more = more_next;
        gone = b.lost;
        named_gone = λ s is. is;
        unnamed = λ s is. inl is;
        grown = written.more;
        later = later_next;
        plan = (b.newest.dev_roles, refl);
        own_is = λ s sb is own_is. own_next s sb own_is;
        own_was = λ s is. at.own_was s (sub s is);
        events = omega (arith, is_next.later, at.events);
      }

-- where each slot that is gone is named
pub named_left : (live gone named left : ℕ) → AreLeft live gone left → ((s : ℕ) → has_slot named s ≡ true → has_slot gone s ≡ true)
    → ((s : ℕ) → has_slot gone s ≡ true → (has_slot named s ≡ true) ⊎ ⊥) → AreLeft live named left
named_left live gone named is_left is_are more none_more s = is_are s ∙ ap (λ b. has_slot live s && not b) (⊎_elim
    (λ is. is ∙ sym (⊎_elim (λ n. n) (λ no. absurd no) (none_more s is)))
    (λ none. none ∙ sym (⊎_elim (λ n. absurd (let both = sym (more s n) ∙ none in cc)) (λ no. no) (by_bool (has_slot named s)))) (by_bool (has_slot gone s)))

pub all-named : (scope : Scope) (members : Members) (change : Change) (before live last : ℕ) (c : Contents) → IsReadAsPlannedBut scope members change before live last (λ s. ⊥) c
    → IsReadAsPlanned scope members change before live last c
all-named scope members change before live last c r = record {
  newest = r.newest;
  named = r.named;
  lost = r.lost;
  left = r.left;
  own = r.own;
  are = named_left live r.gone r.named r.left r.are r.named_gone r.unnamed;
  more = r.more;
  within = r.within;
  later = r.later;
  plan = r.plan;
  table = r.table;
  kept = r.kept;
  reads = r.reads;
}

-- where more are lost at the end
pub planned-wider : (scope : Scope) (members : Members) (change : Change) (before live last last' : ℕ) (c : Contents) → IsWithin last last' → IsReadAsPlanned scope members change before live last c
    → IsReadAsPlanned scope members change before live last' c
planned-wider scope members change before live last last' c more r = record {
  newest = r.newest;
  named = r.named;
  lost = r.lost;
  left = r.left;
  own = r.own;
  are = r.are;
  more = r.more;
  within = λ s is. more s (r.within s is);
  later = r.later;
  plan = r.plan;
  table = r.table;
  kept = r.kept;
  reads = r.reads;
}

pub wider : (scope : Scope) (known : ℕ) (members : Members) (change : Change) (before live last last' : ℕ) (c : Contents) → IsWithin last last' → IsReadInUpdate scope known members change before live last c
    → IsReadInUpdate scope known members change before live last' c
wider scope known members change before live last last' c more (inl r) = inl r
wider scope known members change before live last last' c more (inr r) = inr (planned-wider scope members change before live last last' c more r)
